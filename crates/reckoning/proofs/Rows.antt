-- A month's year, place, leap mark and number, from a rule's laws alone.
-- Assumes nothing.
use mathlib.Core.Path.{◌≡◌, refl}
use mathlib.Core.Logic.{⊎_elim}
use mathlib.Core.Bool.{◌&&◌}
use Prim.Native.Nat.{ℕ, zero, suc, ◌+◌, ◌%◌, ◌≤◌, ◌<◌}
use native.Mathlib.Omega.{arith}
use borrow.Author.Tests.{lt-ltb, le-ltb, le-leb, lt-leb, eq-eqb, ne_eqb}
use lib.Dec.{ltb, eqb}
use Rattle.reckoning.specs.Search.{pick}
use Rattle.reckoning.specs.Rule.{Rule, month_count, is_leap, leap_place, month_number, year_of, place_of}
use Rattle.reckoning.specs.Figures.{leap_at, leap_come, number_by, number_at}
use Rattle.reckoning.proofs.Searches.{le_or_lt, same_or, T_true, T_false}
use Rattle.reckoning.proofs.Climbs.{climb_lt, last_low, last_high, last_is}
use Rattle.reckoning.proofs.Laws.{Laws}
use Rattle.reckoning.proofs.Leaps.{years_climb, year_ends, two_kinds, Common, Long}

-- from a place to the next
number_step : (l p : ℕ) → pick (leap_at l (suc p)) (number_at l p) (number_at l p % 12 + 1) ≡ number_at l (suc p)
unfolding leap_at leap_come number_by
number_step l p =
    ⊎_elim
    (λ (a : 1 ≤ l). ⊎_elim
    (λ (b : l ≤ p). rw (lt-ltb 0 l a, ne_eqb (suc p) l (λ e. omega arith), le-leb l p b, le-leb l (suc p) (omega arith)) (omega arith))
    (λ (b : p < l). ⊎_elim
    (λ (e : suc p ≡ l). rw (lt-ltb 0 l a, eq-eqb (suc p) l e, lt-leb l p b, le-leb l (suc p) (omega arith)) (omega arith))
    (λ n. rw (lt-ltb 0 l a, ne_eqb (suc p) l n, lt-leb l p b, lt-leb l (suc p) (omega arith)) (omega arith))
    (same_or (suc p) l))
    (le_or_lt l p))
    (λ (a : l < 1). rw (le-ltb 0 l (omega arith)) (omega arith))
    (le_or_lt 1 l)

module _ (R : Rule) (L : Laws R) where
  pub year_is : (m y : ℕ) → R.before y ≤ m → m < R.before (suc y) → year_of R m ≡ y
  unfolding year_of
  year_is m y lo hi = last_is R.before (years_climb R L) m y lo hi

  pub year_from : (m : ℕ) → R.before (year_of R m) ≤ m
  unfolding year_of
  year_from m = last_low R.before (years_climb R L) m

  year_to : (m : ℕ) → m < R.before (suc (year_of R m))
  unfolding year_of
  year_to m = last_high R.before (years_climb R L) m

  -- a month before a year's first is of an earlier year
  pub year_under : (m y : ℕ) → m < R.before y → year_of R m < y
  year_under m y h = climb_lt R.before (years_climb R L) (year_of R m) y (omega (arith, year_from m))

  -- MONTH TO YEAR AND PLACE AND BACK: a month is its place on from its year's first, and the place is one of that year
  pub month_back : (m : ℕ) → R.before (year_of R m) + place_of R m ≡ m
  unfolding place_of
  month_back m = omega (arith, year_from m)

  pub place_in : (m : ℕ) → place_of R m < month_count R (year_of R m)
  place_in m = omega (arith, year_ends R L (year_of R m), month_back m, year_to m)

  -- YEAR AND PLACE TO MONTH AND BACK
  pub year_of_lem : (y p : ℕ) → p < month_count R y → year_of R (R.before y + p) ≡ y
  year_of_lem y p h = year_is (R.before y + p) y (omega arith) (omega (arith, year_ends R L y))

  pub place_of_lem : (y p : ℕ) → p < month_count R y → place_of R (R.before y + p) ≡ p
  unfolding place_of
  place_of_lem y p h = rw (year_of_lem y p h) (omega arith)

  -- the leap mark of the month at a place, in figures
  pub leap_at_lem : (y p : ℕ) → p < month_count R y → is_leap R y (R.before y + p) ≡ leap_at (leap_place R y) p
  unfolding leap_at
  leap_at_lem y p h = ⊎_elim of_common of_long (two_kinds R L y)
    where
      of_common : Common R L y → is_leap R y (R.before y + p) ≡ ltb 0 (leap_place R y) && eqb p (leap_place R y)
      of_common c =
          rw (le-ltb 0 (leap_place R y) (omega (arith, c.place)))
          (T_false (is_leap R y (R.before y + p)) (c.none p (omega (arith, c.count))))

      of_long : Long R L y → is_leap R y (R.before y + p) ≡ ltb 0 (leap_place R y) && eqb p (leap_place R y)
      of_long c =
          rw (lt-ltb 0 (leap_place R y) (omega (arith, c.leap.from)))
          (⊎_elim
          (λ (e : p ≡ leap_place R y).
          rw (eq-eqb p (leap_place R y) e)
          (T_true (is_leap R y (R.before y + p)) (rw e c.leap.leap)))
          (λ n.
          rw (ne_eqb p (leap_place R y) n)
          (T_false (is_leap R y (R.before y + p)) (λ t. n (c.leap.alone p (omega (arith, c.count)) t))))
          (same_or p (leap_place R y)))

  -- and its number
  pub number_at_lem : (y p : ℕ) → p < month_count R y → month_number R y p ≡ number_at (leap_place R y) p
  unfolding month_number leap_come number_by
  number_at_lem y zero h = ⊎_elim
      (λ (a : 1 ≤ leap_place R y). rw (lt-ltb 0 (leap_place R y) a, lt-leb (leap_place R y) 0 a) refl)
      (λ (b : leap_place R y < 1). rw (le-ltb 0 (leap_place R y) (omega arith)) refl)
      (le_or_lt 1 (leap_place R y))
  number_at_lem y (suc p) h = rw (leap_at_lem y (suc p) h, number_at_lem y p (omega arith)) (number_step (leap_place R y) p)
