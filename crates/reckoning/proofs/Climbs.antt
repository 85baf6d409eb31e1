-- A count that climbs, from 0 and by at least one at each step: years climb in months, months climb in days.
-- Assumes nothing.
use mathlib.Core.Path.{◌≡◌}
use mathlib.Core.Logic.{⊎_elim}
use Prim.Native.Nat.{ℕ, zero, suc, ◌+◌, ◌≤◌, ◌<◌}
use native.Mathlib.Omega.{arith}
use native.Mathlib.Nat.{add-zero, add-suc, le_dest}
use borrow.Author.Tests.{le-leb, lt-leb}
use Rattle.reckoning.specs.Climb.{last, last_up_to}
use Rattle.reckoning.proofs.Searches.{le_or_lt}

pub record Climbs (f : ℕ → ℕ) : Type 0 where
  pub start : f 0 ≡ 0
  pub step : (n : ℕ) → f n < f (suc n)

module _ (f : ℕ → ℕ) (c : Climbs f) where
  climb_ge : (n : ℕ) → n ≤ f n
  climb_ge zero = omega arith
  climb_ge (suc n) = omega (arith, climb_ge n, c.step n)

  -- d steps on, f is at least d higher
  pub climb_by : (d n : ℕ) → f n + d ≤ f (n + d)
  climb_by zero n = rw (add-zero n) (omega arith)
  climb_by (suc d) n = rw (add-suc n d) (omega (arith, climb_by d n, c.step (n + d)))

  pub climb_le : (a b : ℕ) → a ≤ b → f a ≤ f b
  climb_le a b h = let e = le_dest h in rw (← e.1) (omega (arith, climb_by e.0 a))

  pub climb_lt : (a b : ℕ) → f a < f b → a < b
  climb_lt a b h = ⊎_elim (λ e. absurd (omega (arith, climb_le b a e))) (λ e. e) (le_or_lt b a)

  last_from : (x b : ℕ) → x < f (suc b) → (f (last_up_to f x b) ≤ x) × (x < f (suc (last_up_to f x b)))
  unfolding last_up_to
  last_from x zero h = (omega (arith, c.start), h)
  last_from x (suc b) h =
      ⊎_elim
      (λ e. rw (le-leb (f (suc b)) x e) (e, h))
      (λ e. rw (lt-leb (f (suc b)) x e) (last_from x b e))
      (le_or_lt (f (suc b)) x)

  pub last_low : (x : ℕ) → f (last f x) ≤ x
  unfolding last
  last_low x = (last_from x x (omega (arith, climb_ge (suc x)))).0

  pub last_high : (x : ℕ) → x < f (suc (last f x))
  unfolding last
  last_high x = (last_from x x (omega (arith, climb_ge (suc x)))).1

  -- the one n whose stretch holds x
  pub last_is : (x n : ℕ) → f n ≤ x → x < f (suc n) → last f x ≡ n
  last_is x n lo hi =
      omega (arith, climb_lt (last f x) (suc n) (omega (arith, last_low x)), climb_lt n (suc (last f x)) (omega (arith, last_high x)))
