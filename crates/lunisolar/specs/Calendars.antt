-- A calendar by its constants: its mean moon and sun, its leap rule, and the month at a place of a year.
-- Assumes nothing.
use Rattle.std.specs.Prelude.{Result, Ok, Err, ◌≡◌, ℕ, ◌+◌, ◌-◌, ◌≤◌, ◌<◌, ltb}
use Rattle.reckoning.specs.Search.{pick, between}
use Rattle.reckoning.specs.Rule.{Rule, month_count}
use Rattle.reckoning.specs.Means.{Means, new_moon, MonthBound, YearBound, GainBound}
use Rattle.reckoning.specs.Days.{by_days}
use Rattle.refusal.specs.declared.Refusal.{Refusal}
use Rattle.lunisolar.specs.declared.Constants.{Constants}

-- its mean moon and sun
abbrev pub means_of : Constants → Means
means_of k = record { year_num = k.year; year_den = k.degree; month_num = k.month; month_den = k.day }

-- THE LEAP RULE of every calendar: the rule of days
abbrev pub rule_of : Constants → Rule
rule_of k = by_days (means_of k)

-- what is asked of the constants: what the laws ask, figures that leave room in 64 bits, and the months and days that its years have
pub record Sound (k : Constants) : Type 0 where
  pub moon : MonthBound (means_of k)
  pub sun : YearBound (means_of k)
  pub gain : GainBound (means_of k)
  pub month : k.month < 16777216
  pub year : k.year < 16777216
  pub degree : k.degree < 32768
  pub divisor : k.day < 262144
  pub first : k.first ≤ 1
  pub years : k.years < 1048576
  pub lunations : (rule_of k).before k.years ≡ k.lunations
  pub days : new_moon (means_of k) k.lunations ≡ k.days

-- the years past at year n, which is n less the number of the first; refused under 1 where the calendar has no such year
unfoldable pub year_at : Constants → ℕ → Result ℕ Refusal
year_at k n = pick (between k.first n (k.first + k.years)) (Ok (n - k.first)) (Err Refusal.Year)

-- the month at place p of year n: refused as the year is, then under 2 where the year has no such place
unfoldable pub lunation_for : Constants → Result ℕ Refusal → ℕ → Result ℕ Refusal
lunation_for k (Ok y) p =
    pick (ltb p (month_count (rule_of k) y)) (Ok ((rule_of k).before y + p)) (Err Refusal.Place)
lunation_for k (Err e) p = Err e

abbrev pub lunation_at : Constants → ℕ → ℕ → Result ℕ Refusal
lunation_at k n p = lunation_for k (year_at k n) p

-- a month that is answered is one of the calendar's
abbrev pub InCalendar : Constants → Result ℕ Refusal → Type 0
InCalendar k (Ok m) = m < k.lunations
InCalendar k (Err e) = Unit {0}

-- month m stands at place p of the year with y years past
pub record Stands (k : Constants) (y p m : ℕ) : Type 0 where
  pub year : y < k.years
  pub place : p < month_count (rule_of k) y
  pub month : m ≡ (rule_of k).before y + p
