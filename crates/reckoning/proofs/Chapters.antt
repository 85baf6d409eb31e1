-- What a chapter that comes out even gives of the rule of days: the months before a year, or one fewer.
-- Assumes nothing.
use mathlib.Core.Path.{◌≡◌, ap}
use mathlib.Core.Logic.{⊎_elim}
use Prim.Native.Nat.{ℕ, suc, ◌+◌, ◌*◌, ◌≤◌, ◌<◌}
use native.Mathlib.Omega.{arith}
use native.Mathlib.Nat.{mul-pos, le_of_mul-le-mul_left, lt_of_mul-lt-mul_left, le_of_mul-le-mul_right, mul-le-mul_right, mul-lt-mul_of_pos_right, div-add-mod', mod-lt}
use lib.Dec.{leb}
use borrow.Author.Tests.{le-leb, lt-leb}
use Rattle.reckoning.specs.Search.{pick}
use Rattle.reckoning.specs.Means.{Means, new_moon, term_day, MonthBound, YearBound}
use Rattle.reckoning.specs.Days.{by_days}
use Rattle.reckoning.specs.Chapters.{chapter_before, chapter_rest, ChapterBound}
use Rattle.reckoning.proofs.Searches.{le_or_lt}
use Rattle.reckoning.proofs.Rates.{rate, rate_ge, rate_low, rate_high}
use Rattle.reckoning.proofs.Dates.{month_is}
use Rattle.reckoning.proofs.Moons.{moons_climb, month_short}

module _ (months years : ℕ) (pos : 0 < years) where
  -- the two numbers of the division
  pub chapter_division : (y : ℕ) → (chapter_before months years y * years + chapter_rest months years y ≡ y * months) × (chapter_rest months years y < years)
  unfolding chapter_before chapter_rest
  chapter_division y = (div-add-mod' (y * months) years, mod-lt (y * months) pos)

module _ (M : Means) (b : MonthBound M) (s : YearBound M) (months years : ℕ) (c : ChapterBound M months years) (y : ℕ) where
  abbrev t : ℕ
  t = chapter_before months years y

  -- a year's and a month's share of the common divisor
  den : 0 < M.year_den * M.month_num
  den = mul-pos s.den b.num

  even_by : y * months * (M.year_den * M.month_num) ≡ years * (y * M.year_num * M.month_den)
  even_by = omega (arith, ap (λ (x : ℕ). y * x) c.even)

  -- the solstice's instant lies in the chapter's month
  low : t * M.month_num * M.year_den ≤ y * M.year_num * M.month_den
  unfolding chapter_before rate
  low =
      le_of_mul-le-mul_left {k = years}
      (omega (arith, even_by, mul-le-mul_right (M.year_den * M.month_num) (rate_low months years c.pos y)))
      c.pos

  high : y * M.year_num * M.month_den < suc t * M.month_num * M.year_den
  unfolding chapter_before rate
  high =
      lt_of_mul-lt-mul_left years
      (omega (arith, even_by, mul-lt-mul_of_pos_right (rate_high months years c.pos y) den))

  year_pos : 0 < 12 * M.year_den
  year_pos = omega (arith, s.den)

  -- so its day is the new moon's day or later, and the next new moon's day or before
  moon_first : new_moon M t ≤ term_day M (12 * y)
  unfolding new_moon term_day rate
  moon_first =
      rate_ge M.year_num (12 * M.year_den) year_pos (rate M.month_num M.month_den t) (12 * y)
      (le_of_mul-le-mul_right {k = M.month_den}
      (omega (arith, low, mul-le-mul_right (12 * M.year_den) (rate_low M.month_num M.month_den b.den t))) b.den)

  moon_next : term_day M (12 * y) ≤ new_moon M (suc t)
  unfolding new_moon term_day rate
  moon_next =
      rate_ge M.month_num M.month_den b.den (rate M.year_num (12 * M.year_den) (12 * y)) (suc t)
      (le_of_mul-le-mul_right {k = 12 * M.year_den}
      (omega (arith, high, mul-le-mul_right M.month_den (rate_low M.year_num (12 * M.year_den) year_pos (12 * y)))) year_pos)

  -- THE MONTHS BEFORE A YEAR ARE THE CHAPTER'S, OR ONE MORE, which they are exactly where the next month begins on the solstice's day
  pub chapter_or_more : (by_days M).before y ≡ pick (leb (new_moon M (suc t)) (term_day M (12 * y))) (suc t) t
  unfolding by_days
  chapter_or_more =
      ⊎_elim
      (λ (e : new_moon M (suc t) ≤ term_day M (12 * y)).
      rw (le-leb (new_moon M (suc t)) (term_day M (12 * y)) e)
      (month_is (new_moon M) (moons_climb M b) (term_day M (12 * y)) (suc t) e (omega (arith, moon_next, month_short M b (suc t)))))
      (λ (e : term_day M (12 * y) < new_moon M (suc t)).
      rw (lt-leb (new_moon M (suc t)) (term_day M (12 * y)) e)
      (month_is (new_moon M) (moons_climb M b) (term_day M (12 * y)) t moon_first e))
      (le_or_lt (new_moon M (suc t)) (term_day M (12 * y)))
