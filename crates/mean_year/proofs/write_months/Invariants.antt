use mathlib.Core.Path.{◌≡◌}
use mathlib.Core.List.{List}
use Prim.Native.Nat.{ℕ}
use Rattle.reckoning.proofs.Lists.{filled_to}
use Rattle.lunisolar.specs.declared.Constants.{Constants}
use Rattle.mean_calendar.specs.Months.{month_fields}
use Rattle.mean_year.specs.Years.{month_at}
use Rattle.mean_year.proofs.write_months.Given as goal

-- the numbers at a place
abbrev pub at : Constants → ℕ → ℕ → List ℕ
at k n p = month_fields (month_at k n p)

abbrev pub invariant-loop-i : goal.invariant-loop-i
invariant-loop-i l = l.rows ≡ filled_to (at l.k.constants l.year) l.initial.rows l.i
