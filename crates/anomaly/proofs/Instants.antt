-- The corrected instants, and the anomaly in halves and whole.
-- Assumes nothing.
use mathlib.Core.Path.{◌≡◌}
use mathlib.Core.Bool.{Bool, true, false}
use Prim.Native.Nat.{ℕ, zero, suc, ◌+◌, ◌-◌, ◌*◌, ◌/◌, ◌%◌, ◌≤◌, ◌<◌}
use native.Mathlib.Omega.{arith}
use lib.Dec.{le→leb}
use lib.IntN.{pos, negsuc, neg_ℤ}
use lib.Signed.{◌≤ℤ◌}
use Rattle.reckoning.specs.Search.{pick}
use Rattle.units.specs.Xinghe.{N, P, T}
use Rattle.anomaly.specs.Rates.{printed}
use Rattle.anomaly.specs.Corrections.{anomaly_at, correction_at, later, earlier, moved, corrected_at, corrections_of}
use Rattle.anomaly.specs.declared.amounts.Amount.{Amount}
use Rattle.anomaly.specs.declared.Corrected.{Corrected}
use Rattle.anomaly.proofs.Moves.{later_is, earlier_is}
use Rattle.anomaly.proofs.Fair.{limit, correction_within, size_most, not_before}

-- THE NEW MOON'S ANOMALY is the whole m·P mod T, with no half
pub anomaly_whole : (m : ℕ) → ((corrections_of m).new.anomaly.day ≡ m * P % T / N + 1) × ((corrections_of m).new.anomaly.rest.parts ≡ m * P % T % N) × ((corrections_of m).new.anomaly.half ≡ 0)
unfolding corrections_of corrected_at anomaly_at
anomaly_whole m = let e : 2 * m * P % (2 * T) ≡ 2 * (m * P % T) = omega arith in rw e (omega arith)

-- THE CORRECTION LIES BETWEEN −83,462 AND 96,507
signed_within : (minus : Bool) (size : ℕ) → size ≤ limit minus → (negsuc 83461 ≤ℤ pick minus (neg_ℤ (pos size)) (pos size)) × (pick minus (neg_ℤ (pos size)) (pos size) ≤ℤ pos 96507)
signed_within false n h = (record { le = tt }, record { le = le→leb n 96507 h })
signed_within true zero h = (record { le = tt }, record { le = tt })
signed_within true (suc n) h = (record { le = le→leb n 83461 (omega arith) }, record { le = tt })

pub correction_bounds : (h : ℕ) → (negsuc 83461 ≤ℤ (corrected_at h).correction) × ((corrected_at h).correction ≤ℤ pos 96507)
unfolding corrected_at
correction_bounds h = signed_within (correction_at printed h).minus (correction_at printed h).size (correction_within h)

-- THE CORRECTED DAY AND REMAINDER are the instant less the correction, the remainder in range; none lies before day 0
abbrev pub instant : Corrected → ℕ
instant x = 2 * (x.day * N + x.remainder.parts) + x.half

pub record Moves (h : ℕ) (x : Corrected) (k : Amount) : Type 0 where
  pub to : instant x ≡ pick k.minus (h + 2 * k.size) (h - 2 * k.size)
  pub origin : k.minus ≡ false → 2 * k.size ≤ h
  pub range : (x.remainder.parts < N) × (x.half < 2)

moved_parts : (minus : Bool) (d r c : ℕ) → r < N → c ≤ N → c ≤ d * N + r →
    (let x = pick minus (later d r c) (earlier d r c) in (x.whole * N + x.remainder.parts ≡ pick minus (d * N + r + c) (d * N + r - c)) × (x.remainder.parts < N))
moved_parts true d r c h i o = rw (later_is d r c h i) (omega arith)
moved_parts false d r c h i o = rw (earlier_is d r c h i) (omega arith)

doubled : (minus : Bool) (p c h : ℕ) → h / 2 ≡ p → c ≤ p → 2 * pick minus (p + c) (p - c) + h % 2 ≡ pick minus (h + 2 * c) (h - 2 * c)
doubled true p c h e l = omega arith
doubled false p c h e l = omega arith

pub corrected_instant : (k : ℕ) → Moves (k * P) (corrected_at (k * P)) (correction_at printed (k * P))
unfolding corrected_at moved
corrected_instant k =
    let h : ℕ = k * P in
    let a : Amount = correction_at printed h in
    let m = moved_parts a.minus (h / 2 / N) (h / 2 % N) a.size (omega arith) (omega (arith, size_most h)) (omega (arith, not_before k)) in
    let e : h / 2 ≡ h / 2 / N * N + h / 2 % N = omega arith in
    record {
      to = omega (arith, m.0, doubled a.minus (h / 2 / N * N + h / 2 % N) a.size h e (omega (arith, not_before k)));
      origin = λ z. omega (arith, not_before k);
      range = (m.1, omega arith);
    }
