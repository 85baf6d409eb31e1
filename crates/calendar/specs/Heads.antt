-- A year's head (01, "Years and months").
-- Assumes nothing.
use Rattle.std.specs.Prelude.{Result, Ok, Err, ℕ}
use Rattle.refusal.specs.declared.Refusal.{Refusal}
use Rattle.reckoning.specs.Rule.{month_count, leap_place}
use Rattle.lunisolar.specs.Calendars.{year_at}
use Rattle.units.specs.Xinghe.{xinghe, rule}
use Rattle.units.specs.Chapter.{leap_remainder}
use Rattle.sun.specs.Solstices.{solstice_of}
use Rattle.calendar.specs.declared.YearHead.{YearHead}

-- of the year with y years past: the months before it, the leap remainder of the chapter, the month count, the leap place and the solstice
unfoldable pub head_of : ℕ → YearHead
head_of y =
    record { before = rule.before y; remainder = leap_remainder y; months = month_count rule y; leap = leap_place rule y; solstice = solstice_of y }

-- of year n as it is written; refused under 1 where the round has no such year
unfoldable pub head_for : Result ℕ Refusal → Result YearHead Refusal
head_for (Ok y) = Ok (head_of y)
head_for (Err e) = Err e

abbrev pub year_head : ℕ → Result YearHead Refusal
year_head n = head_for (year_at xinghe n)
