-- A calendar's leap rule, and what 01 "Years and months" defines from it. Years are counted from 0 here, as the years past (算上 less one
-- where a calendar's first year is 1); months are counted from 0 at the origin; term j is middle term k of year y where j = 12·y + k.
-- Assumes nothing.
use Rattle.std.specs.Prelude.{Bool, not, ℕ, zero, suc, ◌+◌, ◌-◌, ◌*◌, ◌%◌}
use Rattle.reckoning.specs.Search.{pick, any, first_from}
use Rattle.reckoning.specs.Climb.{last}

-- THE LEAP RULE: the months before a year (積月 where a chapter gives them), and whether month m holds middle term j (中氣)
pub record Rule : Type 0 where
  pub before : ℕ → ℕ
  pub holds : ℕ → ℕ → Bool

module _ (R : Rule) where
  -- the months of year y
  unfoldable pub month_count : ℕ → ℕ
  month_count y = R.before (suc y) - R.before y

  -- the leap month (閏月): month m holds none of the twelve middle terms of its year y, and so none at all (`leap_holds_none`)
  unfoldable pub is_leap : ℕ → ℕ → Bool
  is_leap y m = not (any (λ k. R.holds m (12 * y + k)) 12)

  -- the leap place: the first place of year y whose month is a leap month; 0 where there is none
  unfoldable pub leap_place : ℕ → ℕ
  leap_place y = first_from (λ p. is_leap y (R.before y + p)) 0 (month_count y)

  -- the month's number: place 0 is the eleventh, then the twelfth, the first and so on; a leap month takes the number of the month before it
  unfoldable pub month_number : ℕ → ℕ → ℕ
  month_number y zero = 11
  month_number y (suc p) = pick (is_leap y (R.before y + suc p)) (month_number y p) (month_number y p % 12 + 1)

  -- the year of month m: the last with at most m months before it
  unfoldable pub year_of : ℕ → ℕ
  year_of m = last R.before m

  -- the place of month m: m less the months before its year
  unfoldable pub place_of : ℕ → ℕ
  place_of m = m - R.before (year_of m)
