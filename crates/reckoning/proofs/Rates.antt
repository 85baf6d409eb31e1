-- A steady rate: n steps of a/b come to n·a/b, rounded down. Over k steps it gains what k·a/b bounds.
-- Assumes nothing.
use mathlib.Core.Path.{◌≡◌, ap}
use Prim.Native.Nat.{ℕ, suc, ◌+◌, ◌*◌, ◌/◌, ◌%◌, ◌≤◌, ◌<◌}
use native.Mathlib.Omega.{arith}
use native.Mathlib.Nat.{le-div_iff_mul-le, div-lt_iff_lt-mul, div-add-mod', mod-lt}

-- n steps of a/b, rounded down
unfoldable pub rate : ℕ → ℕ → ℕ → ℕ
rate a b n = n * a / b

module _ (a b : ℕ) (pos : 0 < b) where
  pub rate_ge : (m n : ℕ) → m * b ≤ n * a → m ≤ rate a b n
  unfolding rate
  rate_ge m n h = (le-div_iff_mul-le pos).1 h

  pub rate_lt : (m n : ℕ) → n * a < m * b → rate a b n < m
  unfolding rate
  rate_lt m n h = (div-lt_iff_lt-mul pos).1 h

  pub rate_low : (n : ℕ) → rate a b n * b ≤ n * a
  unfolding rate
  rate_low n = omega (arith, div-add-mod' (n * a) b)

  pub rate_high : (n : ℕ) → n * a < rate a b n * b + b
  unfolding rate
  rate_high n = omega (arith, div-add-mod' (n * a) b, mod-lt (n * a) pos)

  pub rate_is : (n m : ℕ) → m * b ≤ n * a → n * a < m * b + b → rate a b n ≡ m
  rate_is n m lo hi = omega (arith, rate_ge m n lo, rate_lt (suc m) n (omega arith))

  pub rate_zero : rate a b 0 ≡ 0
  rate_zero = rate_is 0 0 (omega arith) (omega arith)

  -- k steps gain at least c, where c·b is at most k·a
  pub rate_gains : (c k n : ℕ) → c * b ≤ k * a → rate a b n + c ≤ rate a b (n + k)
  rate_gains c k n h = rate_ge (rate a b n + c) (n + k) (omega (arith, rate_low n))

  -- and at most d, where k·a is at most d·b
  pub rate_within : (d k n : ℕ) → k * a ≤ d * b → rate a b (n + k) ≤ rate a b n + d
  rate_within d k n h = omega (arith, rate_lt (rate a b n + d + 1) (n + k) (omega (arith, rate_high n)))

  -- each whole b of the steps gains a, and the rest of them what they gain by themselves
  pub rate_rounds : (n : ℕ) → rate a b n ≡ n / b * a + rate a b (n % b)
  rate_rounds n =
      let all = ap (λ (x : ℕ). x * a) (div-add-mod' n b) in
      rate_is n (n / b * a + rate a b (n % b)) (omega (arith, all, rate_low (n % b))) (omega (arith, all, rate_high (n % b)))
