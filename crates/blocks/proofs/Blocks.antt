-- A block put together from its parts.
-- Assumes nothing.
use Rattle.std.specs.Prelude.{Result, Ok, Err}
use Rattle.refusal.specs.declared.Refusal.{Refusal}
use Rattle.std.specs.Result.{result_unwrap_or}
use mathlib.Core.Path.{◌≡◌, refl, sym, ap, ◌∙◌}
use mathlib.Core.List.{List, ◌++◌}
use Prim.Native.Nat.{ℕ, zero, suc, ◌+◌, ◌-◌, ◌*◌, ◌≤◌}
use native.Mathlib.Omega.{arith}
use lib.ListN.{length, take, length-append, length-replicate}
use Rattle.calendar.specs.Heads.{year_head}
use Rattle.calendar.specs.Answers.{zero_head}
use Rattle.calendar.specs.declared.YearHead.{YearHead}
use Rattle.calendar.proofs.Round.{head_months}
use Rattle.year_list.specs.Filled.{row_at}
use Rattle.totals.specs.Totals.{months_of}
use Rattle.totals.specs.declared.Totals.{Totals}
use Rattle.blocks.specs.Bytes.{le16, zeros}
use Rattle.blocks.specs.Check.{check_of}
use Rattle.blocks.specs.Block.{head_bytes, record_bytes, records, totals_bytes, front_of, body_of, block_of}
use Rattle.writing.specs.Written.{Wrote}
use Rattle.writing.proofs.Writings.{and_then, and_at, wrote_all}
use Rattle.blocks.proofs.Sums.{check_zeros}

-- a year has at most thirteen months; what is no year has none
pub at_most_13 : (n : ℕ) → months_of n ≤ 13
at_most_13 n = go (year_head n) refl
  where
    go : (a : Result YearHead Refusal) → a ≡ year_head n → (result_unwrap_or a zero_head).months ≤ 13
    go (Ok head) q = head_months n head q
    go (Err e) q = omega arith

-- one writing after another makes the block
module _ (n : ℕ) (t : Totals) {a b c d : List ℕ} where
  pub front : {e : List ℕ} (h : YearHead) → h ≡ result_unwrap_or (year_head n) zero_head → Wrote a b 0 8 (head_bytes n h) → Wrote b c 8 (8 + 16 * h.months) (records n h.months) → Wrote c d (8 + 16 * h.months) (8 + 16 * h.months + 16 * (13 - h.months)) (zeros (16 * (13 - h.months))) → Wrote d e 216 228 (totals_bytes t) → Wrote a e 0 228 (front_of n t)
  unfolding front_of
  front h q w r z s =
      let k : h.months ≡ months_of n = ap (λ (x : YearHead). x.months) q in
      rw (← k, ← q) (and_at (and_then (and_then w r) z) s (omega (arith, k, at_most_13 n)))

  pub whole : (sum : ℕ) → length a ≡ 512 → Wrote a b 0 228 (front_of n t) → sum ≡ check_of (take 228 b) → Wrote b c 228 510 (zeros 282) → Wrote c d 510 512 (le16 sum) → d ≡ block_of n t
  unfolding block_of body_of
  whole sum h p s z w =
      let e : sum ≡ check_of (front_of n t ++ zeros 282) = s ∙ ap check_of p.front ∙ sym (check_zeros (front_of n t) 282) in
      rw (← e) (wrote_all (omega arith) (and_then (and_then p z) w))

pub records_length : (y n : ℕ) → length (records y n) ≡ 16 * n
unfolding records record_bytes
records_length y zero = refl
records_length y (suc n) = omega (arith, length-append (records y n) (record_bytes (row_at y n)), records_length y n)

pub before_totals : (y : ℕ) → length (head_bytes y (result_unwrap_or (year_head y) zero_head) ++ records y (months_of y) ++ zeros (16 * (13 - months_of y))) ≡ 216
unfolding head_bytes
before_totals y =
    let h = head_bytes y (result_unwrap_or (year_head y) zero_head) in
    let r = records y (months_of y) in
    let z = zeros (16 * (13 - months_of y)) in
    omega
    (arith, length-append (h ++ r) z, length-append h r, records_length y (months_of y), length-replicate {A = ℕ} (16 * (13 - months_of y)) 0, at_most_13 y)

pub front_length : (y : ℕ) (t : Totals) → length (front_of y t) ≡ 228
unfolding front_of totals_bytes
front_length y t =
    omega (arith, length-append (head_bytes y (result_unwrap_or (year_head y) zero_head) ++ records y (months_of y) ++ zeros (16 * (13 - months_of y))) (totals_bytes t), before_totals y)

pub body_length : (y : ℕ) (t : Totals) → length (body_of y t) ≡ 510
unfolding body_of
body_length y t = omega (arith, length-append (front_of y t) (zeros 282), front_length y t)

pub block_length : (y : ℕ) (t : Totals) → length (block_of y t) ≡ 512
unfolding block_of
block_length y t = omega (arith, length-append (body_of y t) (le16 (check_of (body_of y t))), body_length y t)
