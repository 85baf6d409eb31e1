-- A year's head (01, "Years and months"), in any calendar.
-- Assumes nothing.
use Rattle.std.specs.Prelude.{Result, Ok, Err, ℕ, ◌*◌}
use Rattle.refusal.specs.declared.Refusal.{Refusal}
use Rattle.reckoning.specs.Rule.{month_count, leap_place}
use Rattle.lunisolar.specs.Calendars.{rule_of, year_at}
use Rattle.lunisolar.specs.declared.Constants.{Constants}
use Rattle.mean_calendar.specs.Parts.{over_degree}
use Rattle.mean_calendar.specs.declared.MeanHead.{MeanHead}

-- of the year with y years past: the months before it, the month count, the leap place, and the winter solstice, which is y years from the origin:
-- whole days, and the remainder over the degree divisor
unfoldable pub head_of : Constants → ℕ → MeanHead
head_of k y =
    record {
      before = (rule_of k).before y;
      months = month_count (rule_of k) y;
      leap = leap_place (rule_of k) y;
      solstice = (over_degree k (y * k.year)).whole;
      remainder = (over_degree k (y * k.year)).rest;
    }

-- of year n as it is written; refused under 1 where the calendar has no such year
unfoldable pub head_for : Constants → Result ℕ Refusal → Result MeanHead Refusal
head_for k (Ok y) = Ok (head_of k y)
head_for k (Err e) = Err e

abbrev pub year_head : Constants → ℕ → Result MeanHead Refusal
year_head k n = head_for k (year_at k n)
