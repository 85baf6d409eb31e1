-- A month's row (01, "Years and months"; 02 §5).
-- Assumes nothing.
use Rattle.std.specs.Prelude.{Result, Ok, Err, List, [], ◌∷◌, ℕ}
use Rattle.refusal.specs.declared.Refusal.{Refusal}
use Rattle.lunisolar.specs.Calendars.{lunation_at}
use Rattle.walking.specs.Fields.{bit_of}
use Rattle.mean_calendar.specs.Months.{month_of}
use Rattle.mean_calendar.specs.declared.MeanMonth.{MeanMonth}
use Rattle.units.specs.Xinghe.{xinghe}
use Rattle.node.specs.Eclipses.{distance}
use Rattle.node.specs.Sides.{side_of, side_number}
use Rattle.anomaly.specs.Corrections.{new_moon_at, anomaly_at}
use Rattle.calendar.specs.declared.MonthRow.{MonthRow}

-- a month, as any calendar has it, with its new moon's distance since the node, side, anomaly day and rest
abbrev pub row_by : MeanMonth → MonthRow
row_by r =
    record {
      lunation = r.lunation;
      year = r.year;
      place = r.place;
      number = r.number;
      leap = r.leap;
      day = r.day;
      remainder = record { parts = r.remainder.parts };
      length = r.length;
      degrees = (distance r.lunation).degrees;
      residue = (distance r.lunation).remainder;
      side = side_of r.lunation;
      anomaly = (anomaly_at (new_moon_at r.lunation)).day;
      rest = (anomaly_at (new_moon_at r.lunation)).rest;
    }

-- the row worked out from the origin for month m, which takes nothing but m. Its length is 01's, by the small remainder (`row_length_by`)
unfoldable pub row_of : ℕ → MonthRow
row_of m = row_by (month_of xinghe m)

-- the row at place p of year n: refused under 1 where the round has no such year, then under 2 where the year has no such place
unfoldable pub row_for : Result ℕ Refusal → Result MonthRow Refusal
row_for (Ok m) = Ok (row_of m)
row_for (Err e) = Err e

abbrev pub month_row : ℕ → ℕ → Result MonthRow Refusal
month_row n p = row_for (lunation_at xinghe n p)

-- a row's fields as numbers, in their order, and how many they are: so others are handed rows, and hand them in
abbrev pub field_count : ℕ
field_count = 13

abbrev pub row_fields : MonthRow → List ℕ
row_fields r =
    r.lunation ∷ r.year ∷ r.place ∷ r.number ∷ bit_of r.leap ∷ r.day ∷ r.remainder.parts ∷ r.length
    ∷ r.degrees ∷ r.residue.parts ∷ side_number r.side ∷ r.anomaly ∷ r.rest.parts ∷ []
