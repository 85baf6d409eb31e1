-- A month (01, "Years and months"), in any calendar: the eight fields of 01's row.
-- Assumes nothing.
use Rattle.std.specs.Prelude.{Result, Ok, Err, List, [], ◌∷◌, ℕ}
use Rattle.refusal.specs.declared.Refusal.{Refusal}
use Rattle.reckoning.specs.Means.{new_moon, new_moon_rest}
use Rattle.lunisolar.specs.Calendars.{means_of, lunation_at}
use Rattle.lunisolar.specs.Names.{name_of}
use Rattle.lunisolar.specs.Dates.{month_days}
use Rattle.lunisolar.specs.declared.Constants.{Constants}
use Rattle.walking.specs.Fields.{bit_of}
use Rattle.mean_calendar.specs.declared.MeanMonth.{MeanMonth}

-- the month worked out from the origin for its number m, and for nothing else: its name, the day of its new moon with the small remainder (小餘),
-- and its length, the days until the next month begins
unfoldable pub month_of : Constants → ℕ → MeanMonth
month_of k m =
    record {
      lunation = m;
      year = (name_of k m).year;
      place = (name_of k m).place;
      number = (name_of k m).number;
      leap = (name_of k m).leap;
      day = new_moon (means_of k) m;
      remainder = record { parts = new_moon_rest (means_of k) m };
      length = month_days k m;
    }

-- the month at place p of year n: refused under 1 where the calendar has no such year, then under 2 where the year has no such place
unfoldable pub month_for : Constants → Result ℕ Refusal → Result MeanMonth Refusal
month_for k (Ok m) = Ok (month_of k m)
month_for k (Err e) = Err e

abbrev pub month_row : Constants → ℕ → ℕ → Result MeanMonth Refusal
month_row k n p = month_for k (lunation_at k n p)

-- its fields as numbers, in their order, and how many they are
abbrev pub field_count : ℕ
field_count = 8

abbrev pub month_fields : MeanMonth → List ℕ
month_fields r =
    r.lunation ∷ r.year ∷ r.place ∷ r.number ∷ bit_of r.leap ∷ r.day ∷ r.remainder.parts ∷ r.length ∷ []
