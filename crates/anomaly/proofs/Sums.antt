-- The running sums, amounts and changes of any 28 rates from −1,000 to 1,000.
-- Assumes nothing.
use mathlib.Core.Path.{◌≡◌, refl, sym, ap, ◌∙◌}
use mathlib.Core.List.{List, [], ◌∷◌}
use Prim.Native.Nat.{ℕ, zero, suc, ◌+◌, ◌-◌, ◌*◌, ◌≤◌, ◌<◌}
use native.Mathlib.Numerals.{add-one}
use native.Mathlib.Omega.{arith}
use lib.Dec.{T, leb, leb→le}
use lib.IntN.{ℤ, pos, ◌+ℤ◌, nat_abs, +ℤ_idl, +ℤ_idr, +ℤ_assoc}
use lib.ListN.{get_or}
use mir.Syntax.{w64}
use mir.Val.{to_z, of_z}
use Rattle.reckoning.proofs.Searches.{both_left, both_right}
use Rattle.lunisolar.proofs.Laws.{product}
use Rattle.units.specs.Xinghe.{N}
use Rattle.anomaly.specs.Rates.{small, sum_of}
use Rattle.anomaly.specs.Amounts.{sized_of, amount_of}
use Rattle.anomaly.proofs.Whole.{size_add, back, sized}

-- one rate more
sum_step : (rs : List ℤ) (k : ℕ) → sum_of rs (suc k) ≡ sum_of rs k +ℤ get_or rs k (pos 0)
unfolding sum_of
sum_step [] zero = refl
sum_step [] (suc k) = refl
sum_step (r ∷ rs) zero = +ℤ_idr r ∙ sym (+ℤ_idl r)
sum_step (r ∷ rs) (suc k) = ap (λ (z : ℤ). r +ℤ z) (sum_step rs k) ∙ sym (+ℤ_assoc r (sum_of rs k) (get_or rs k (pos 0)))

pub rate_small : (rs : List ℤ) → T (small rs) → (k : ℕ) → nat_abs (get_or rs k (pos 0)) ≤ 1000
rate_small [] h k = omega arith
rate_small (r ∷ rs) h zero = leb→le (nat_abs r) 1000 (both_left (leb (nat_abs r) 1000) (small rs) h)
rate_small (r ∷ rs) h (suc k) = rate_small rs (both_right (leb (nat_abs r) 1000) (small rs) h) k

pub sum_small : (rs : List ℤ) → T (small rs) → (k : ℕ) → nat_abs (sum_of rs k) ≤ 1000 * k
unfolding sum_of
sum_small rs h zero = omega arith
sum_small [] h (suc k) = omega arith
sum_small (r ∷ rs) h (suc k) =
    let now = leb→le (nat_abs r) 1000 (both_left (leb (nat_abs r) 1000) (small rs) h) in
    let before = sum_small rs (both_right (leb (nat_abs r) 1000) (small rs) h) k in
    omega (arith, size_add r (sum_of rs k))

module _ (rs : List ℤ) (h : T (small rs)) where
  -- the machine's sum, of the two numbers' bits
  pub sum_bits : (k : ℕ) → k < 28 → to_z w64 (of_z w64 (sum_of rs k)) +ℤ to_z w64 (of_z w64 (get_or rs k (pos 0))) ≡ sum_of rs (k + 1)
  sum_bits k b =
      rw (
        back (sum_of rs k) (omega (arith, sum_small rs h k)),
        back (get_or rs k (pos 0)) (omega (arith, rate_small rs h k)),
        add-one,
      )
      (sym (sum_step rs k))

  pub sum_back : (k : ℕ) → k ≤ 28 → to_z w64 (of_z w64 (sum_of rs k)) ≡ sum_of rs k
  sum_back k b = back (sum_of rs k) (omega (arith, sum_small rs h k))

  pub rate_back : (k : ℕ) → to_z w64 (of_z w64 (get_or rs k (pos 0))) ≡ get_or rs k (pos 0)
  rate_back k = back (get_or rs k (pos 0)) (omega (arith, rate_small rs h k))

  -- amounts stay below a million, and products of a rate and a rest in halves leave room
  pub amount_small : (day : ℕ) → day ≤ 28 → (amount_of rs day).size < 1000000
  unfolding amount_of
  amount_small day b = omega (arith, sized (sum_of rs (day - 1)), sum_small rs h (day - 1))

  pub product_small : (k x : ℕ) → x ≤ 2 * N → (sized_of (get_or rs k (pos 0))).size * x ≤ 1000 * (2 * N)
  product_small k x b =
      product (sized_of (get_or rs k (pos 0))).size x 1000 (2 * N) (rw (sized (get_or rs k (pos 0))) (rate_small rs h k)) b
