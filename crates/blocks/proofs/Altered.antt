-- One altered byte of any block whose check is right makes the check wrong.
-- Assumes nothing.
use mathlib.Core.Path.{◌≡◌, sym, ap, ◌∙◌}
use mathlib.Core.Logic.{⊎_elim}
use mathlib.Core.Bool.{Bool, true, not, ◌&&◌}
use mathlib.Core.List.{List, [], ◌∷◌}
use Prim.Native.Nat.{ℕ, zero, suc, ◌+◌, ◌-◌, ◌*◌, ◌%◌, ◌≤◌, ◌<◌}
use native.Mathlib.Nat.{mul-le-mul, mul-mod_left, eq-or-lt_of_le}
use native.Mathlib.Omega.{arith}
use lib.Dec.{T, eqb, eqb→eq, T_not}
use lib.Ieee.Fits.{and_l, and_r}
use lib.ListN.{length, take, get_or, set}
use lib.Seq.{length-take-le, take-set-lt, take-set-le, get_or-set_same, get_or-set_other, get_or-take}
use Rattle.reckoning.proofs.Searches.{le_or_lt}
use Rattle.blocks.specs.Bytes.{value16}
use Rattle.blocks.specs.Check.{weighted, modulus, check_of, right_check}

-- no number from 2 to n + 1 divides 65,521
no_divisor : ℕ → Bool
no_divisor zero = true
no_divisor (suc n) = not (eqb (modulus % (n + 2)) 0) && no_divisor n

none_divides : (n d : ℕ) → T (no_divisor n) → 2 ≤ d → d < n + 2 → modulus % d ≡ 0 → ⊥
unfolding no_divisor
none_divides zero d t l h e = omega arith
none_divides (suc n) d t l h e =
    ⊎_elim
    (λ (q : d ≡ n + 2). T_not (eqb (modulus % (n + 2)) 0) (and_l (not (eqb (modulus % (n + 2)) 0)) (no_divisor n) t) (rw (← q, e) tt))
    (λ (q : d < n + 2). none_divides n d (and_r (not (eqb (modulus % (n + 2)) 0)) (no_divisor n) t) l q e)
    (eq-or-lt_of_le {n = d} {m = n + 2} (omega arith))

-- a weight times a difference of two bytes may go past 65,521, and is never equal to it
not_product : (w d : ℕ) → w ≤ 510 → 1 ≤ d → d ≤ 255 → w * d ≡ modulus → ⊥
unfolding no_divisor
not_product w d hw l h e =
    ⊎_elim
    (λ (q : 1 ≡ d). omega (arith, rw (← q) at e))
    (λ (q : 1 < d). none_divides 254 d tt q (omega arith) (rw (← e) (mul-mod_left w d)))
    (eq-or-lt_of_le l)

-- nor is it twice that: so it is no multiple
moved : (s w d : ℕ) → 1 ≤ w → w ≤ 510 → 1 ≤ d → d ≤ 255 → s % modulus ≡ (s + w * d) % modulus → ⊥
moved s w d l hw k hd e =
    not_product w d hw k hd (omega (arith, mul-le-mul {n₁ = 1} {m₁ = 1} {n₂ = w} {m₂ = d} l k, mul-le-mul {n₁ = w} {m₁ = d} {n₂ = 510} {m₂ = 255} hw hd))

-- x below y in the one place of weight w
risen : (s t w x y : ℕ) → 1 ≤ w → w ≤ 510 → x < y → y < 256 → t + w * x ≡ s + w * y → s % modulus ≡ t % modulus → ⊥
risen s t w x y l hw h k e q =
    let up : y ≡ x + (y - x) = omega arith in
    let by : t ≡ s + w * (y - x) = omega (arith, ap (λ (n : ℕ). w * n) up) in
    moved s w (y - x) l hw (omega arith) (omega arith) (q ∙ ap (λ (n : ℕ). n % modulus) by)

-- the sum after one byte is altered
altered_sum : (k : ℕ) (xs : List ℕ) (i b : ℕ) → i < length xs → weighted k (set xs i b) + (k + i + 1) * get_or xs i 0 ≡ weighted k xs + (k + i + 1) * b
unfolding weighted
altered_sum k [] i b h = omega arith
altered_sum k (x ∷ xs) zero b h = omega arith
altered_sum k (x ∷ xs) (suc i) b h =
    let e : k + 1 + i + 1 ≡ k + suc i + 1 = omega arith in
    omega (arith, rw e at (altered_sum (k + 1) xs i b (omega arith)))

-- byte i of a block becomes another byte
module _ (block : List ℕ) (i b : ℕ) (long : length block ≡ 512) (bytes : (k : ℕ) → get_or block k 0 < 256) (small : b < 256) (other : get_or block i 0 ≡ b → ⊥) where
  kept : (j : ℕ) → (j ≡ i → ⊥) → get_or (set block i b) j 0 ≡ get_or block j 0
  kept j h = get_or-set_other block i j b 0 h

  -- before the check
  in_body : i < 510 → check_of (take 510 block) ≡ check_of (take 510 (set block i b)) → ⊥
  in_body h e =
      let body = take 510 block in
      let here : i < length body = omega (arith, length-take-le 510 block (omega arith)) in
      let same : get_or body i 0 ≡ get_or block i 0 = get_or-take 510 block i 0 h in
      let sums : weighted 0 (set body i b) + (0 + i + 1) * get_or block i 0 ≡ weighted 0 body + (0 + i + 1) * b = rw (← same) (altered_sum 0 body i b here) in
      let q : check_of body ≡ check_of (set body i b) = e ∙ ap check_of (take-set-lt 510 block i b h) in
      ⊎_elim
      (λ (l : get_or block i 0 ≤ b).
      ⊎_elim other
      (λ (k : get_or block i 0 < b). risen (weighted 0 body) (weighted 0 (set body i b)) (0 + i + 1) (get_or block i 0) b (omega arith) (omega arith) k small sums q)
      (eq-or-lt_of_le l))
      (λ (k : b < get_or block i 0). risen (weighted 0 (set body i b)) (weighted 0 body) (0 + i + 1) b (get_or block i 0) (omega arith) (omega arith) k (bytes i) (sym sums) (sym q))
      (le_or_lt (get_or block i 0) b)

  -- in the check itself
  in_check : 510 ≤ i → i < 512 → value16 block 510 ≡ value16 (set block i b) 510 → ⊥
  in_check l h e =
      let put : get_or (set block i b) i 0 ≡ b = get_or-set_same block i b 0 (omega arith) in
      ⊎_elim
      (λ (q : 510 ≡ i). other (omega (arith, rw (← q) at put, rw (← q) at e, ap (λ (k : ℕ). get_or block k 0) q, kept 511 (λ (z : 511 ≡ i). omega arith), rw (← q) at (kept 511 (λ (z : 511 ≡ i). omega arith)))))
      (λ (q : 510 < i).
      let i-is : i ≡ 511 = omega arith in
      other (omega (arith, rw i-is at put, rw i-is at e, ap (λ (k : ℕ). get_or block k 0) i-is, rw i-is at (kept 510 (λ (z : 510 ≡ i). omega arith)))))
      (eq-or-lt_of_le l)

  -- ONE ALTERED BYTE OF ANY BLOCK WITH A RIGHT CHECK MAKES ITS CHECK WRONG, whatever the block holds
  pub altered : i < 512 → T (right_check block) → ¬ (T (right_check (set block i b)))
  unfolding right_check
  altered h r t =
      let right : check_of (take 510 block) ≡ value16 block 510 = eqb→eq (check_of (take 510 block)) (value16 block 510) r in
      let e : check_of (take 510 (set block i b)) ≡ value16 (set block i b) 510 = eqb→eq (check_of (take 510 (set block i b))) (value16 (set block i b) 510) t in
      ⊎_elim
      (λ (l : 510 ≤ i). in_check l h (sym right ∙ ap check_of (sym (take-set-le 510 block i b l)) ∙ e))
      (λ (l : i < 510). in_body l (right ∙ omega (arith, kept 510 (λ (z : 510 ≡ i). omega arith), kept 511 (λ (z : 511 ≡ i). omega arith)) ∙ sym e))
      (le_or_lt 510 i)
