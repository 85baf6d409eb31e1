-- What a year has of its months (01, "Years and months").
-- Assumes nothing.
use Rattle.std.specs.Prelude.{ℕ}
use Rattle.reckoning.specs.Rule.{month_count, leap_place}
use Rattle.lunisolar.specs.Calendars.{rule_of}
use Rattle.lunisolar.specs.declared.Constants.{Constants}
use Rattle.lunisolar.specs.declared.rule.YearMonths.{YearMonths}

-- of the year with y years past: the months before it, its month count, and the leap place
abbrev pub year_months : Constants → ℕ → YearMonths
year_months k y = record { before = (rule_of k).before y; count = month_count (rule_of k) y; leap = leap_place (rule_of k) y }
