-- Dates and day numbers of the Xinghe: those of any calendar, at its constants.
-- Assumes nothing.
use Rattle.lunisolar.specs.declared.dates.Date.{Date}
use Rattle.lunisolar.specs.declared.dates.Day.{Day}
use Rattle.std.specs.Prelude.{Result, ℕ}
use Rattle.refusal.specs.declared.Refusal.{Refusal}
use Rattle.lunisolar.specs.Dates as dates
use Rattle.units.specs.Xinghe.{xinghe}

-- day i of the month at place p of year n
abbrev pub day_of_date : ℕ → ℕ → ℕ → Result Day Refusal
day_of_date n p i = dates.day_of_date xinghe n p i

-- the date of a day
abbrev pub date_of_day : ℕ → Result Date Refusal
date_of_day d = dates.date_of_day xinghe d
