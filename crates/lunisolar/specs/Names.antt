-- A month's name (01, "Years and months").
-- Assumes nothing.
use Rattle.std.specs.Prelude.{ℕ, ◌+◌}
use Rattle.reckoning.specs.Rule.{month_number, is_leap, year_of, place_of}
use Rattle.lunisolar.specs.Calendars.{rule_of}
use Rattle.lunisolar.specs.declared.Constants.{Constants}
use Rattle.lunisolar.specs.declared.naming.MonthName.{MonthName}

-- of month m: its year as it is written, its place, its month number and whether it is the leap month (閏月)
unfoldable pub name_of : Constants → ℕ → MonthName
name_of k m =
    record {
      year = year_of (rule_of k) m + k.first;
      place = place_of (rule_of k) m;
      number = month_number (rule_of k) (year_of (rule_of k) m) (place_of (rule_of k) m);
      leap = is_leap (rule_of k) (year_of (rule_of k) m) m;
    }
