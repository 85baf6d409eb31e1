-- Totals of a run of years (02 §6): leap months, marked new moons, marked full moons.
-- Assumes nothing.
use Rattle.std.specs.Result.{result_unwrap_or}
use Rattle.std.specs.Prelude.{Bool, ℕ, zero, suc, ◌+◌, ◌-◌}
use Rattle.reckoning.specs.Search.{count}
use Rattle.units.specs.Xinghe.{rule}
use Rattle.calendar.specs.Heads.{year_head}
use Rattle.calendar.specs.Answers.{zero_head}
use Rattle.ephemeris.specs.Jobs.{nodes_at}
use Rattle.ephemeris.specs.Answers.{zero_nodes}
use Rattle.year_list.specs.Filled.{row_at}
use Rattle.totals.specs.declared.Totals.{Totals}

-- the month count of year n
abbrev pub months_of : ℕ → ℕ
months_of n = (result_unwrap_or (year_head n) zero_head).months

-- of year n, month by month: by the leap mark of its rows, and by the eclipse marks of its eclipse pages
unfoldable pub marks_of : ℕ → Totals
marks_of n =
    record {
      leaps = count (λ (p : ℕ). (row_at n p).leap) (months_of n);
      news = count (λ (p : ℕ). (result_unwrap_or (nodes_at n p) zero_nodes).new.eclipse.marked) (months_of n);
      fulls = count (λ (p : ℕ). (result_unwrap_or (nodes_at n p) zero_nodes).full.eclipse.marked) (months_of n);
    }

abbrev pub none : Totals
none = record { leaps = 0; news = 0; fulls = 0 }

abbrev pub plus : Totals → Totals → Totals
plus a b = record { leaps = a.leaps + b.leaps; news = a.news + b.news; fulls = a.fulls + b.fulls }

-- of the k years from a first one on
unfoldable pub totals : ℕ → ℕ → Totals
totals first zero = none
totals first (suc k) = plus (totals first k) (marks_of (first + k))

-- at how many months of the round's years from one to another, the first at least 1, a test of months passes (02 §7)
abbrev pub over_months : (ℕ → Bool) → ℕ → ℕ → ℕ
over_months marked from to = count (λ (i : ℕ). marked (rule.before (from - 1) + i)) (rule.before to - rule.before (from - 1))
