-- Where the leap month stands to the place that the instants give it, over any constants with two twelfths of a year a day longer than two months:
-- there, or one or two places before.
-- Assumes nothing.
use mathlib.Core.Path.{◌≡◌, sym, ◌∙◌, ap}
use Prim.Native.Nat.{ℕ, zero, suc, ◌+◌, ◌*◌, ◌≤◌, ◌<◌}
use native.Mathlib.Omega.{arith}
use native.Mathlib.Nat.{le_of_mul-le-mul_right, lt_of_mul-lt-mul_left, mul-le-mul_right, mul-lt-mul_of_pos_right}
use borrow.Author.Tests.{leb-true, leb-false, le-leb, lt-leb}
use Rattle.reckoning.specs.Means.{Means, new_moon, term_day, MonthBound, YearBound, GainBound}
use Rattle.reckoning.specs.Rule.{leap_place}
use Rattle.reckoning.specs.Days.{by_days}
use Rattle.reckoning.specs.Figures.{LeapNear}
use Rattle.reckoning.proofs.Rates.{rate, rate_ge, rate_lt, rate_low, rate_high}
use Rattle.reckoning.proofs.Dates.{month_from, month_to}
use Rattle.reckoning.proofs.Moons.{moons_climb}
use Rattle.reckoning.proofs.Days.{leap_come_in}

module _ (M : Means) (b : MonthBound M) (s : YearBound M) where
  year_pos : 0 < 12 * M.year_den
  year_pos = omega (arith, s.den)

  -- new moon m falls on the day of term j or before where its instant does
  moon_by : (m j : ℕ) → m * M.month_num * (12 * M.year_den) ≤ j * M.year_num * M.month_den → new_moon M m ≤ term_day M j
  unfolding new_moon term_day rate
  moon_by m j h =
      rate_ge M.year_num (12 * M.year_den) year_pos (rate M.month_num M.month_den m) j
      (le_of_mul-le-mul_right {k = M.month_den}
      (omega (arith, h, mul-le-mul_right (12 * M.year_den) (rate_low M.month_num M.month_den b.den m))) b.den)

  -- and after it where its instant is a day later, or more
  moon_after : (m j : ℕ) → j * M.year_num * M.month_den + 12 * (M.year_den * M.month_den) ≤ m * M.month_num * (12 * M.year_den) → term_day M j < new_moon M m
  unfolding new_moon term_day rate
  moon_after m j h =
      rate_lt M.year_num (12 * M.year_den) year_pos (rate M.month_num M.month_den m) j
      (lt_of_mul-lt-mul_left M.month_den
      (omega (arith, h, mul-lt-mul_of_pos_right (rate_high M.month_num M.month_den b.den m) year_pos)))

  module _ (y : ℕ) where
    abbrev before : ℕ
    before = (by_days M).before y

    -- the solstice's instant is before the next new moon's, and less than a day before the first month's
    pub solstice_before : y * M.year_num * M.month_den < suc before * M.month_num * M.year_den
    unfolding by_days new_moon term_day rate
    solstice_before =
        let t : ℕ = rate M.year_num (12 * M.year_den) (12 * y) in
        let n : ℕ = rate M.month_num M.month_den (suc before) in
        let h : t < n = month_to (new_moon M) (moons_climb M b) (term_day M (12 * y)) in
        omega (
          arith,
          mul-lt-mul_of_pos_right (rate_high M.year_num (12 * M.year_den) year_pos (12 * y)) b.den,
          mul-le-mul_right M.year_den (rate_low M.month_num M.month_den b.den (suc before)),
          mul-le-mul_right (12 * M.year_den * M.month_den) h,
        )

    pub month_before : before * M.month_num * M.year_den < y * M.year_num * M.month_den + M.year_den * M.month_den
    unfolding by_days new_moon term_day rate
    month_before =
        let t : ℕ = rate M.year_num (12 * M.year_den) (12 * y) in
        let n : ℕ = rate M.month_num M.month_den before in
        let h : n ≤ t = month_from (new_moon M) (moons_climb M b) (term_day M (12 * y)) in
        omega (
          arith,
          mul-le-mul_right M.month_den (rate_low M.year_num (12 * M.year_den) year_pos (12 * y)),
          mul-lt-mul_of_pos_right (rate_high M.month_num M.month_den b.den before) s.den,
          mul-le-mul_right (M.year_den * M.month_den) h,
        )

    -- from the solstice to the next new moon, in parts of which a day has monthDen·yearDen; and what a term falls behind in a place, in the
    -- same parts of a twelfth of a day
    module _ (gap gain : ℕ) (solstice : gap + y * M.year_num * M.month_den ≡ suc before * M.month_num * M.year_den) (step : gain + 12 * M.year_den * M.month_num ≡ M.year_num * M.month_den) where
      step_by : (p : ℕ) → p * gain + p * (12 * M.year_den * M.month_num) ≡ p * (M.year_num * M.month_den)
      step_by p = omega (arith, ap (λ (x : ℕ). p * x) step)

      module _ (some : 0 < leap_place (by_days M) y) where
        -- by days it has come at a place where it has by instants
        come : (p : ℕ) → 12 * gap ≤ p * gain → leap_place (by_days M) y ≤ p
        come p h =
            leb-true (leap_place (by_days M) y) p
            (sym (leap_come_in M b s y p some)
            ∙ le-leb (new_moon M (suc (before + p))) (term_day M (12 * y + p)) (moon_by (suc (before + p)) (12 * y + p) (omega (arith, h, solstice, step_by p))))

        -- and hasn't at a place two before one where it hasn't by instants
        not_yet : GainBound M → (p : ℕ) → (p + 2) * gain < 12 * gap → p < leap_place (by_days M) y
        not_yet g p h =
            leb-false (leap_place (by_days M) y) p
            (sym (leap_come_in M b s y p some)
            ∙ lt-leb (new_moon M (suc (before + p))) (term_day M (12 * y + p)) (moon_after (suc (before + p)) (12 * y + p) (omega (arith, h, solstice, step_by p, step, g.gain))))

      -- THE LAST PLACE AT WHICH IT HASN'T COME BY INSTANTS IS NEXT TO ITS OWN
      pub near_leap : GainBound M → (p : ℕ) → p * gain < 12 * gap → 12 * gap ≤ suc p * gain → LeapNear (leap_place (by_days M) y) p
      near_leap g zero lo hi some = (omega arith, omega (arith, come some 1 hi))
      near_leap g (suc zero) lo hi some = (omega arith, omega (arith, come some 2 hi))
      near_leap g (suc (suc p)) lo hi some =
          let e : p + 2 ≡ suc (suc p) = omega arith in
          (omega (arith, not_yet some g p (rw e lo)), omega (arith, come some (suc (suc (suc p))) hi))
