-- The sum of (i + 1) times byte i.
-- Assumes nothing.
use mathlib.Core.Path.{◌≡◌, refl, ap}
use mathlib.Core.List.{List, [], ◌∷◌, ◌++◌}
use Prim.Native.Nat.{ℕ, zero, suc, ◌+◌, ◌*◌, ◌≤◌, ◌<◌}
use native.Mathlib.Nat.{add-zero, add-mul, mul-le-mul}
use native.Mathlib.Numerals.{add-one}
use native.Mathlib.Omega.{arith}
use lib.ListN.{length, take, get_or}
use lib.Seq.{take-suc, length-take-le}
use Rattle.blocks.specs.Bytes.{zeros}
use Rattle.blocks.specs.Check.{weighted, check_of}

pub sum_append : (i : ℕ) (xs ys : List ℕ) → weighted i (xs ++ ys) ≡ weighted i xs + weighted (i + length xs) ys
unfolding weighted
sum_append i [] ys = rw (add-zero i) (omega arith)
sum_append i (x ∷ xs) ys =
    let e : i + 1 + length xs ≡ i + suc (length xs) = omega arith in
    rw (sum_append (i + 1) xs ys, e) (omega arith)

-- one byte more, in two terms
pub sum_more : (past : ℕ) (bs : List ℕ) (i : ℕ) → i < length bs → weighted past (take (i + 1) bs) ≡ weighted past (take i bs) + ((i + 1) * get_or bs i 0 + past * get_or bs i 0)
unfolding weighted
sum_more past bs i h =
    let long : length (take i bs) ≡ i = length-take-le i bs (omega arith) in
    let terms : (past + i + 1) * get_or bs i 0 ≡ (i + 1) * get_or bs i 0 + past * get_or bs i 0 = omega (arith, add-mul (i + 1) past (get_or bs i 0), ap (λ (w : ℕ). w * get_or bs i 0) (weights past i)) in
    rw (add-one i, take-suc bs i 0 h, sum_append past (take i bs) (get_or bs i 0 ∷ []), long) (omega (arith, terms))
  where
    weights : (p k : ℕ) → p + k + 1 ≡ k + 1 + p
    weights p k = omega arith

-- zeros add nothing
pub sum_zeros : (i n : ℕ) → weighted i (zeros n) ≡ 0
unfolding weighted
sum_zeros i zero = refl
sum_zeros i (suc n) = omega (arith, sum_zeros (i + 1) n)

pub check_zeros : (bs : List ℕ) (n : ℕ) → check_of (bs ++ zeros n) ≡ check_of bs
check_zeros bs n = rw (sum_append 0 bs (zeros n), sum_zeros (0 + length bs) n, add-zero)

-- a term is small
pub small_term : (w b : ℕ) → w ≤ 256 → b < 256 → w * b ≤ 65280
small_term w b h k = mul-le-mul {n₁ = w} {m₁ = b} {n₂ = 256} {m₂ = 255} h (omega arith)
