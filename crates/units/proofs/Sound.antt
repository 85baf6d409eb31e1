-- The Xinghe's constants are sound, so every law over sound constants holds of it; and its chapter comes out even.
-- Assumes nothing.
use mathlib.Core.Path.{◌≡◌, refl}
use Prim.Native.Nat.{◌+◌, ◌*◌}
use lib.Dec.{lit<, lit≤}
use Rattle.reckoning.specs.Means.{MonthBound, YearBound, new_moon, term_day}
use Rattle.reckoning.specs.Chapters.{ChapterBound}
use Rattle.reckoning.proofs.Laws.{Laws}
use Rattle.reckoning.proofs.Days.{day_before}
use Rattle.lunisolar.specs.Calendars.{Sound}
use Rattle.lunisolar.proofs.Laws.{laws_of}
use Rattle.units.specs.Xinghe.{xinghe, means, rule, round_years, chapter_months, chapter_years, chapter_leaps}

moon : MonthBound means
moon = record { den = lit< tt; num = lit< tt; short = lit≤ tt; long = lit≤ tt }

sun : YearBound means
sun = record { den = lit< tt; short = lit≤ tt; long = lit≤ tt }

pub sound : Sound xinghe
unfolding new_moon term_day
sound =
    record {
      moon = moon;
      sun = sun;
      gain = record { gain = lit≤ tt };
      month = lit< tt;
      year = lit< tt;
      degree = lit< tt;
      divisor = lit< tt;
      first = lit≤ tt;
      years = lit< tt;
      lunations = day_before means moon sun round_years;
      days = refl;
    }

pub laws : Laws rule
laws = laws_of xinghe sound

pub chapter : ChapterBound means chapter_months chapter_years
chapter = record { pos = lit< tt; even = refl }

-- twelve months a year, and its leap months
pub chapter_leaps_lem : chapter_months ≡ 12 * chapter_years + chapter_leaps
chapter_leaps_lem = refl
