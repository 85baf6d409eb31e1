-- A month's leap mark and number as a program finds them, from the leap place or from whether the leap month has come.
-- Assumes nothing.
use mathlib.Core.Path.{◌≡◌, refl}
use mathlib.Core.Bool.{Bool, true, false, ◌&&◌, not}
use mathlib.Core.Logic.{⊎_elim}
use Prim.Native.Nat.{ℕ, zero, suc, ◌+◌, ◌≤◌, ◌<◌}
use native.Mathlib.Omega.{arith}
use lib.Dec.{leb, ltb, eqb}
use mir.Val.{bool_byte}
use borrow.Author.Tests.{lt-ltb, le-ltb, lt-leb, le-leb, ne_eqb, eq-eqb}
use Rattle.reckoning.specs.Figures.{leap_at, leap_come, leap_or_past, LeapNear}
use Rattle.reckoning.proofs.Searches.{le_or_lt, same_or}

-- a test as a number
pub one_at_most : (t : Bool) → bool_byte t ≤ 1
one_at_most true = omega arith
one_at_most false = omega arith

-- where a place below 13 stands to the leap place, or to 13 where there is none
module _ (place : ℕ) (h : place < 13) where
  pub from_leap : (leap : ℕ) → leb (leap_or_past leap) place ≡ leap_come leap place
  unfolding leap_come
  from_leap zero = lt-leb 13 place h
  from_leap (suc l) = rw (ne_eqb (suc l) 0 (λ e. omega (arith, e)), lt-ltb 0 (suc l) (omega arith))

  pub at_leap : (leap : ℕ) → eqb place (leap_or_past leap) ≡ leap_at leap place
  unfolding leap_at
  at_leap zero = ne_eqb place 13 (λ e. omega (arith, e))
  at_leap (suc l) = rw (ne_eqb (suc l) 0 (λ e. omega (arith, e)), lt-ltb 0 (suc l) (omega arith))

-- the leap month never stands at place 0, and at another where it has come and at the place before hadn't
pub never_first : (leap : ℕ) (t : Bool) → leap_come leap 0 && t ≡ leap_at leap 0
unfolding leap_come leap_at
never_first zero t = refl
never_first (suc l) t = rw (lt-ltb 0 (suc l) (omega arith), lt-leb (suc l) 0 (omega arith), ne_eqb 0 (suc l) (λ e. omega (arith, e))) refl

pub comes_at : (leap place : ℕ) → leap_come leap (suc place) && not (leap_come leap place) ≡ leap_at leap (suc place)
unfolding leap_come leap_at
comes_at zero p = refl
comes_at (suc l) p =
    ⊎_elim
    (λ (b : suc l ≤ p). rw (lt-ltb 0 (suc l) (omega arith), le-leb (suc l) p b, le-leb (suc l) (suc p) (omega arith), ne_eqb (suc p) (suc l) (λ e. omega arith)) refl)
    (λ (b : p < suc l). ⊎_elim
    (λ (e : suc p ≡ suc l). rw (lt-ltb 0 (suc l) (omega arith), lt-leb (suc l) p b, le-leb (suc l) (suc p) (omega arith), eq-eqb (suc p) (suc l) e) refl)
    (λ n. rw (lt-ltb 0 (suc l) (omega arith), lt-leb (suc l) (suc p) (omega arith), ne_eqb (suc p) (suc l) n) refl)
    (same_or (suc p) (suc l)))
    (le_or_lt (suc l) p)

-- it is found by two looks, at a place next to it or its own and at the place before
pub place_is : (leap near : ℕ) → 0 < leap → LeapNear leap near → near + 1 ≡ leap + bool_byte (leb leap near) + bool_byte (ltb leap near)
place_is leap t some n =
    ⊎_elim
    (λ (a : t ≤ leap). ⊎_elim
    (λ (b : leap ≤ t). rw (le-leb leap t b, le-ltb leap t a) (omega arith))
    (λ (b : t < leap). rw (lt-leb leap t b, le-ltb leap t a) (omega (arith, (n some).1)))
    (le_or_lt leap t))
    (λ (a : leap < t). rw (le-leb leap t (omega arith), lt-ltb leap t a) (omega (arith, (n some).0)))
    (le_or_lt t leap)
