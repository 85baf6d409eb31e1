-- The month of a day, from days that climb with the months alone.
-- Assumes nothing.
use mathlib.Core.Path.{◌≡◌}
use Prim.Native.Nat.{ℕ, suc, ◌≤◌, ◌<◌}
use native.Mathlib.Omega.{arith}
use Rattle.reckoning.specs.Dates.{month_of}
use Rattle.reckoning.proofs.Climbs.{Climbs, climb_lt, last_low, last_high, last_is}

module _ (day : ℕ → ℕ) (c : Climbs day) where
  -- EACH DAY LIES IN EXACTLY ONE MONTH
  pub month_is : (d m : ℕ) → day m ≤ d → d < day (suc m) → month_of day d ≡ m
  unfolding month_of
  month_is d m lo hi = last_is day c d m lo hi

  pub month_from : (d : ℕ) → day (month_of day d) ≤ d
  unfolding month_of
  month_from d = last_low day c d

  pub month_to : (d : ℕ) → d < day (suc (month_of day d))
  unfolding month_of
  month_to d = last_high day c d

  -- a day before a month's first lies in an earlier month
  pub month_under : (d m : ℕ) → d < day m → month_of day d < m
  month_under d m h = climb_lt day c (month_of day d) m (omega (arith, month_from d))

  -- and a day on the next month's first or later in a later one
  pub month_over : (d m : ℕ) → day (suc m) ≤ d → m < month_of day d
  month_over d m h = omega (arith, climb_lt day c (suc m) (suc (month_of day d)) (omega (arith, month_to d)))
