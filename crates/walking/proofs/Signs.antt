-- Months and signed counts in whole numbers.
-- Assumes nothing.
use Rattle.std.proofs.Common.{◌≡◌, ℕ, zero, suc, ◌+◌, ◌-◌, ◌%◌, ◌^◌, ◌<◌, ◌≤◌, ℤ, pos, negsuc, ◌+ℤ◌, ◌-ℤ◌, refl, ap, arith, le-ltb, lt-ltb}
use lib.Signed.{mag}
use Rattle.walking.specs.Signed.{sign_of, bits_of, target_of}
use Rattle.walking.specs.declared.Sign.{Sign}
use Rattle.std.specs.Prelude.{Some, None}

-- a number by its side
pub is_up : (n : ℕ) (z : ℤ) → Sign.Up n ≡ sign_of z → z ≡ pos n
is_up n (pos m) e = cc
is_up n (negsuc m) e = cc

pub is_down : (n : ℕ) (z : ℤ) → Sign.Down n ≡ sign_of z → z ≡ negsuc n
is_down n (pos m) e = cc
is_down n (negsuc m) e = cc

-- the month k + z, by the side of z
module _ (size k n : ℕ) (z : ℤ) where
  up_in : Sign.Up n ≡ sign_of z → n < size - k → Some (k + n) ≡ target_of size (pos k +ℤ z)
  up_in e h = rw (is_up n z e, lt-ltb (k + n) size (omega arith))

  up_out : Sign.Up n ≡ sign_of z → size - k ≤ n → None ≡ target_of size (pos k +ℤ z)
  up_out e h = rw (is_up n z e, le-ltb (k + n) size (omega arith))

  down_in : Sign.Down n ≡ sign_of z → k < size → n < k → Some (k - 1 - n) ≡ target_of size (pos k +ℤ z)
  down_in e h i =
      let s : k - 1 - n ≡ k - suc n = omega arith in
      rw (is_down n z e, le-ltb k (suc n) (omega arith), lt-ltb (k - suc n) size (omega arith), s)

  down_out : Sign.Down n ≡ sign_of z → k ≤ n → None ≡ target_of size (pos k +ℤ z)
  down_out e h = rw (is_down n z e, lt-ltb k (suc n) (omega arith))

-- the month k + z, from the sum that wraps at 2^64: of a round of at most 2^63 months it is inside exactly where it should be
module _ (size k : ℕ) (in_round_lem : k < size) (small : size ≤ 9223372036854775808) where
  pub wrapped_in : (z : ℤ) (t : ℕ) → mag z < 9223372036854775808 → t ≡ (k + bits_of z) % 2 ^ 64 → t < size → Some t ≡ target_of size (pos k +ℤ z)
  wrapped_in (pos n) t b e h = let s : t ≡ k + n = omega arith in rw s (up_in size k n (pos n) refl (omega arith))
  wrapped_in (negsuc n) t b e h = let s : t ≡ k - 1 - n = omega arith in rw s (down_in size k n (negsuc n) refl in_round_lem (omega arith))

  pub wrapped_out : (z : ℤ) (t : ℕ) → mag z < 9223372036854775808 → t ≡ (k + bits_of z) % 2 ^ 64 → size ≤ t → None ≡ target_of size (pos k +ℤ z)
  wrapped_out (pos n) t b e h = up_out size k n (pos n) refl (omega arith)
  wrapped_out (negsuc n) t b e h = down_out size k n (negsuc n) refl (omega arith)

-- the difference of two months, by which is the greater
pub minus_up : (a b : ℕ) → b ≤ a → pos (a - b) ≡ pos a -ℤ pos b
minus_up a zero h = let e : a - 0 ≡ a + 0 = omega arith in ap pos e
minus_up a (suc n) h = rw (le-ltb a (suc n) h)

pub below_minus_one : (k : ℕ) → negsuc 0 -ℤ pos k ≡ negsuc k
below_minus_one zero = refl
below_minus_one (suc j) = let e : suc (0 + j) ≡ suc j = omega arith in ap negsuc e

pub minus_down : (a b : ℕ) → a < b → negsuc (b - a - 1) ≡ pos a -ℤ pos b
minus_down a zero h = absurd (omega arith)
minus_down a (suc n) h = let e : suc n - a - 1 ≡ suc n - suc a = omega arith in rw (lt-ltb a (suc n) h, e)
