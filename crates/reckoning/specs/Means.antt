-- The mean moon and sun of a calendar: a year is yearNum/yearDen days, a month monthNum/monthDen days.
-- Assumes nothing.
use Rattle.std.specs.Prelude.{ℕ, ◌+◌, ◌*◌, ◌/◌, ◌%◌, ◌≤◌, ◌<◌}

pub record Means : Type 0 where
  pub year_num : ℕ
  pub year_den : ℕ
  pub month_num : ℕ
  pub month_den : ℕ

module _ (M : Means) where
  -- the day on which month m begins, and its small remainder (小餘)
  unfoldable pub new_moon : ℕ → ℕ
  new_moon m = m * M.month_num / M.month_den

  unfoldable pub new_moon_rest : ℕ → ℕ
  new_moon_rest m = m * M.month_num % M.month_den

  -- the day on which middle term j (中氣) falls: twelve to a year, the first of them the solstice
  unfoldable pub term_day : ℕ → ℕ
  term_day j = j * M.year_num / (12 * M.year_den)

-- what the laws ask of the constants: a month of 29 to 30 days
pub record MonthBound (M : Means) : Type 0 where
  pub den : 0 < M.month_den
  pub num : 0 < M.month_num
  pub short : 29 * M.month_den ≤ M.month_num
  pub long : M.month_num ≤ 30 * M.month_den

-- and a twelfth of a year of 30 to 31 days
pub record YearBound (M : Means) : Type 0 where
  pub den : 0 < M.year_den
  pub short : 360 * M.year_den ≤ M.year_num
  pub long : M.year_num ≤ 372 * M.year_den

-- and two twelfths of a year a day longer than two months, or more
pub record GainBound (M : Means) : Type 0 where
  pub gain : 12 * (M.year_den * M.month_den) + 24 * (M.year_den * M.month_num) ≤ 2 * (M.year_num * M.month_den)
