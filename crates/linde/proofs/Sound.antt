-- The Linde's constants are sound, so every law over sound constants holds of it.
-- Assumes nothing.
use mathlib.Core.Path.{refl}
use lib.Dec.{lit<, lit≤}
use Rattle.reckoning.specs.Means.{MonthBound, YearBound, new_moon, term_day}
use Rattle.reckoning.proofs.Laws.{Laws}
use Rattle.reckoning.proofs.Days.{day_before}
use Rattle.lunisolar.specs.Calendars.{Sound}
use Rattle.lunisolar.proofs.Laws.{laws_of}
use Rattle.linde.specs.Linde.{linde, means, rule, years}

moon : MonthBound means
moon = record { den = lit< tt; num = lit< tt; short = lit≤ tt; long = lit≤ tt }

sun : YearBound means
sun = record { den = lit< tt; short = lit≤ tt; long = lit≤ tt }

pub sound : Sound linde
unfolding new_moon term_day
sound =
    record {
      moon = moon;
      sun = sun;
      gain = record { gain = lit≤ tt };
      month = lit< tt;
      year = lit< tt;
      degree = lit< tt;
      divisor = lit< tt;
      first = lit≤ tt;
      years = lit< tt;
      lunations = day_before means moon sun years;
      days = refl;
    }

pub laws : Laws rule
laws = laws_of linde sound
