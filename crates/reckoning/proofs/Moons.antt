-- Mean new moons, over any constants with months of 29 to 30 days.
-- Assumes nothing.
use mathlib.Core.Path.{◌≡◌, sym}
use mathlib.Core.Logic.{⊎_elim}
use Prim.Native.Nat.{ℕ, zero, suc, ◌+◌, ◌-◌, ◌*◌, ◌/◌, ◌≤◌, ◌<◌}
use native.Mathlib.Omega.{arith}
use native.Mathlib.Numerals.{add-one}
use native.Mathlib.Nat.{div-add-mod', mod-lt}
use lib.Dec.{leb}
use borrow.Author.Tests.{le-leb, lt-leb}
use Rattle.reckoning.specs.Search.{pick}
use Rattle.reckoning.specs.Means.{Means, new_moon, new_moon_rest, MonthBound}
use Rattle.reckoning.specs.Dates.{month_of}
use Rattle.reckoning.proofs.Searches.{le_or_lt}
use Rattle.reckoning.proofs.Climbs.{Climbs}
use Rattle.reckoning.proofs.Rates.{rate, rate_is, rate_ge, rate_lt, rate_zero, rate_gains, rate_within}
use Rattle.reckoning.proofs.Dates.{month_is}

module _ (M : Means) (b : MonthBound M) where
  -- a month has 29 or 30 days
  pub month_short : (m : ℕ) → new_moon M m + 29 ≤ new_moon M (suc m)
  unfolding new_moon rate
  month_short m = rw (← add-one m) (rate_gains M.month_num M.month_den b.den 29 1 m (omega (arith, b.short)))

  pub month_long : (m : ℕ) → new_moon M (suc m) ≤ new_moon M m + 30
  unfolding new_moon rate
  month_long m = rw (← add-one m) (rate_within M.month_num M.month_den b.den 30 1 m (omega (arith, b.long)))

  pub moons_climb : Climbs (new_moon M)
  unfolding new_moon rate
  moons_climb = record { start = rate_zero M.month_num M.month_den b.den; step = λ m. omega (arith, month_short m) }

  pub moon_high : (m : ℕ) → new_moon M m ≤ 30 * m
  moon_high zero = omega (arith, moons_climb.start)
  moon_high (suc m) = omega (arith, moon_high m, month_long m)

  -- the month that a day lies in, by one division
  pub month_of_day : (d : ℕ) → month_of (new_moon M) d ≡ (d * M.month_den + (M.month_den - 1)) / M.month_num
  unfolding new_moon rate
  month_of_day d =
      let x : ℕ = d * M.month_den + (M.month_den - 1) in
      let q = div-add-mod' x M.month_num in
      let r = mod-lt x b.num in
      month_is (new_moon M) moons_climb d (x / M.month_num)
      (omega (arith, rate_lt M.month_num M.month_den b.den (suc d) (x / M.month_num) (omega (arith, b.den))))
      (omega (arith, rate_ge M.month_num M.month_den b.den (suc d) (suc (x / M.month_num)) (omega (arith, b.den))))

  -- the day moves on by 30 where the remainder carries, and by 29 where it doesn't
  long_month : (m : ℕ) → 30 * M.month_den ≤ new_moon_rest M m + M.month_num → new_moon M (suc m) ≡ new_moon M m + 30
  unfolding new_moon new_moon_rest rate
  long_month m h =
      rate_is M.month_num M.month_den b.den (suc m) (m * M.month_num / M.month_den + 30)
      (omega (arith, div-add-mod' (m * M.month_num) M.month_den))
      (omega (arith, div-add-mod' (m * M.month_num) M.month_den, mod-lt (m * M.month_num) b.den, b.long))

  short_month : (m : ℕ) → new_moon_rest M m + M.month_num < 30 * M.month_den → new_moon M (suc m) ≡ new_moon M m + 29
  unfolding new_moon new_moon_rest rate
  short_month m h =
      rate_is M.month_num M.month_den b.den (suc m) (m * M.month_num / M.month_den + 29)
      (omega (arith, div-add-mod' (m * M.month_num) M.month_den, b.short))
      (omega (arith, div-add-mod' (m * M.month_num) M.month_den))

  -- A MONTH'S LENGTH BY ITS SMALL REMAINDER: 30 days from 30·monthDen − monthNum on, otherwise 29
  pub length_by_lem : (m : ℕ) → new_moon M m + pick (leb (30 * M.month_den - M.month_num) (new_moon_rest M m)) 30 29 ≡ new_moon M (suc m)
  length_by_lem m =
      let r : ℕ = new_moon_rest M m in
      let from : ℕ = 30 * M.month_den - M.month_num in
      ⊎_elim
      (λ (h : from ≤ r). rw (le-leb from r h) (sym (long_month m (omega (arith, b.long)))))
      (λ (h : r < from). rw (lt-leb from r h) (sym (short_month m (omega (arith, b.long)))))
      (le_or_lt from r)
