-- The laws of counting at how many numbers a test passes.
-- Assumes nothing.
use mathlib.Core.Path.{◌≡◌, refl}
use mathlib.Core.Bool.{Bool, true, false, cond}
use mathlib.Core.Logic.{⊎_elim}
use Prim.Native.Nat.{ℕ, zero, suc, ◌+◌, ◌≤◌, ◌<◌}
use native.Mathlib.Nat.{add-zero}
use native.Mathlib.Omega.{arith}
use lib.Dec.{T}
use Rattle.reckoning.specs.Search.{count}
use Rattle.reckoning.proofs.Searches.{T_true, T_false, le_or_lt}

bit_small : (b : Bool) → cond b 1 0 ≤ 1
bit_small true = omega arith
bit_small false = omega arith

module _ (f : ℕ → Bool) where
  -- at most at all of them
  pub count_small : (n : ℕ) → count f n ≤ n
  unfolding count
  count_small zero = omega arith
  count_small (suc n) = omega (arith, count_small n, bit_small (f n))

  -- the first a of them, and then b more
  pub count_on : (a b : ℕ) → count f (a + b) ≡ count f a + count (λ (i : ℕ). f (a + i)) b
  unfolding count
  count_on a zero = rw (add-zero a) (omega arith)
  count_on a (suc b) = let e : a + suc b ≡ suc (a + b) = omega arith in rw (e, count_on a b) (omega arith)

  -- at none
  pub count_none : (n : ℕ) → ((k : ℕ) → k < n → ¬ (T (f k))) → count f n ≡ 0
  unfolding count
  count_none zero none = refl
  count_none (suc n) none = rw (count_none n (λ k h. none k (omega arith)), T_false (f n) (none n (omega arith)))

  -- at one alone
  pub count_one : (n l : ℕ) → l < n → T (f l) → ((k : ℕ) → k < n → T (f k) → k ≡ l) → count f n ≡ 1
  unfolding count
  count_one zero l h t alone = absurd (omega arith)
  count_one (suc n) l h t alone =
      ⊎_elim
      (λ (e : n ≤ l).
      let q : n ≡ l = omega arith in
      rw (count_none n (λ k a s. omega (arith, alone k (omega arith) s)), q, T_true (f l) t))
      (λ (e : l < n).
      rw (count_one n l e t (λ k a s. alone k (omega arith) s), T_false (f n) (λ (s : T (f n)). omega (arith, alone n (omega arith) s))))
      (le_or_lt n l)

-- two tests that agree pass at as many numbers
pub count_same : (f g : ℕ → Bool) (n : ℕ) → ((k : ℕ) → k < n → f k ≡ g k) → count f n ≡ count g n
unfolding count
count_same f g zero same = refl
count_same f g (suc n) same = rw (count_same f g n (λ k h. same k (omega arith)), same n (omega arith))
