-- Dates and day numbers (01, "Years and months" and "Numbers returned").
-- Assumes nothing.
use Rattle.std.specs.Prelude.{Result, Ok, Err, ℕ, suc, ◌+◌, ◌-◌, ◌*◌, leb, ltb}
use Rattle.reckoning.specs.Search.{pick, between}
use Rattle.reckoning.specs.Means.{new_moon}
use Rattle.reckoning.specs.Dates.{month_of}
use Rattle.refusal.specs.declared.Refusal.{Refusal}
use Rattle.lunisolar.specs.Sixty.{sexagenary_of}
use Rattle.lunisolar.specs.Calendars.{means_of, lunation_at}
use Rattle.lunisolar.specs.Names.{name_of}
use Rattle.lunisolar.specs.declared.Constants.{Constants}
use Rattle.lunisolar.specs.declared.dates.Day.{Day}
use Rattle.lunisolar.specs.declared.dates.Date.{Date}

-- a day by its number
abbrev pub day_of : ℕ → Day
day_of d = record { number = d; sexagenary = sexagenary_of d }

-- the length of month m: the days until the next begins
unfoldable pub month_days : Constants → ℕ → ℕ
month_days k m = new_moon (means_of k) (suc m) - new_moon (means_of k) m

-- the same by the small remainder: 30 days from 30 day divisors less a month on, otherwise 29 (`length_is`)
abbrev pub length_by : Constants → ℕ → ℕ
length_by k rest = pick (leb (30 * k.day - k.month) rest) 30 29

-- day i of month m, counted from 1: refused under 3 where i is 0 or past the month's length
unfoldable pub day_in : Constants → ℕ → ℕ → Result Day Refusal
day_in k m i =
    pick (between 1 i (suc (month_days k m))) (Ok (day_of (new_moon (means_of k) m + (i - 1)))) (Err Refusal.DayOfMonth)

-- day i of the month at place p of year n: refused as the month is, then as the day is
unfoldable pub day_for : Constants → Result ℕ Refusal → ℕ → Result Day Refusal
day_for k (Ok m) i = day_in k m i
day_for k (Err e) i = Err e

abbrev pub day_of_date : Constants → ℕ → ℕ → ℕ → Result Day Refusal
day_of_date k n p i = day_for k (lunation_at k n p) i

-- the date of day d of month m
unfoldable pub date_in : Constants → ℕ → ℕ → Date
date_in k m d = record { year = (name_of k m).year; place = (name_of k m).place; day = d - new_moon (means_of k) m + 1 }

-- the date of a day, in the month that it lies in: refused under 7 past the calendar's last day
unfoldable pub date_of_day : Constants → ℕ → Result Date Refusal
date_of_day k d = pick (ltb d k.days) (Ok (date_in k (month_of (new_moon (means_of k)) d) d)) (Err Refusal.Day)
