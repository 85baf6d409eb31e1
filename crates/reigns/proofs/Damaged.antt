-- One altered byte of an accepted volume, and the answer.
-- Assumes nothing.
use Rattle.std.specs.Prelude.{Result, Ok, Err}
use mathlib.Core.Path.{◌≡◌, refl, sym, ◌∙◌}
use mathlib.Core.Bool.{◌&&◌}
use mathlib.Core.Logic.{◌⊎◌, inl, inr, ⊎_elim, ◌≢◌}
use mathlib.Core.List.{List}
use Prim.Native.Nat.{ℕ, ◌+◌, ◌-◌, ◌*◌, ◌/◌, ◌≤◌, ◌<◌}
use native.Mathlib.Omega.{arith}
use lib.Dec.{T, eqb}
use borrow.Author.Tests.{ne_eqb}
use lib.ListN.{length, take, get_or}
use lib.Seq.{ext_get_or, get_or-take, length-take-le}
use Rattle.reckoning.specs.Search.{pick}
use Rattle.reckoning.proofs.Searches.{T_false, decide, both_left, both_right, same_or, le_or_lt, pick_cases}
use Rattle.refusal.specs.declared.Refusal.{Refusal}
use Rattle.blocks.specs.Check.{right_check}
use Rattle.blocks.specs.Block.{totals_in}
use Rattle.volumes.specs.Volume.{block_in}
use Rattle.volumes.specs.Reader.{first_year, read_answer}
use Rattle.volumes.proofs.Runs.{part_length}
use Rattle.volumes.proofs.Parts.{byte_in}
use Rattle.volumes.proofs.Answered.{accepted}
use Rattle.volumes.proofs.Altered.{wrong_block}
use Rattle.reigns.specs.Marked.{end_year, block_of_year, in_volume, none_below, from_last, from_both, marked_answer}
use Rattle.reigns.proofs.Spans.{Inside, inside}
use Rattle.reigns.proofs.Only.{only_these}
use Rattle.reigns.proofs.Counted.{looks}

abbrev refused : Result (ℕ × ℕ) Refusal
refused = Err Refusal.Block

-- a wrong check is refused
one_wrong : (last : List ℕ) → ¬ (T (right_check last)) → from_last last ≡ refused
unfolding from_last
one_wrong last n = rw (T_false (right_check last) n)

two_wrong : (before last : List ℕ) → ¬ (T (right_check before) × T (right_check last)) → from_both before last ≡ refused
unfolding from_both
two_wrong before last n =
    let grown = none_below (totals_in before) (totals_in last) in
    let rest = right_check last && grown in
    rw (T_false (right_check before && rest) (λ t. n (both_left (right_check before) rest t, both_left (right_check last) grown (both_right (right_check before) rest t))))

module _ (bytes altered : List ℕ) (first last i from to : ℕ) (read : read_answer bytes ≡ Ok (first, last)) (long : length altered ≡ length bytes) (past : 4 ≤ i) (here : i < length bytes) (small : get_or altered i 0 < 256) (other : ¬ (get_or bytes i 0 ≡ get_or altered i 0)) (same : (k : ℕ) → ¬ (k ≡ i) → get_or altered k 0 ≡ get_or bytes k 0) where
  abbrev j : ℕ
  j = i / 512

  four : take 4 altered ≡ take 4 bytes
  four =
      ext_get_or 0 (take 4 altered) (take 4 bytes) (length-take-le 4 altered (omega (arith, long)) ∙ sym (length-take-le 4 bytes (omega arith)))
      (λ k h.
      let l : k < 4 = omega (arith, length-take-le 4 altered (omega (arith, long))) in
      get_or-take 4 altered k 0 l ∙ same k (λ (q : k ≡ i). omega arith) ∙ sym (get_or-take 4 bytes k 0 l))

  named : first_year altered ≡ first_year bytes
  named = rw (same 0 (λ (q : 0 ≡ i). omega arith), same 1 (λ (q : 1 ≡ i). omega arith), same 2 (λ (q : 2 ≡ i). omega arith), same 3 (λ (q : 3 ≡ i). omega arith))

  -- every other block is as it was
  elsewhere : (k : ℕ) → k ≢ j → 512 * k + 512 ≤ length bytes → block_in altered k ≡ block_in bytes k
  elsewhere k n h =
      let a = part_length altered (512 * k) 512 refl (omega (arith, long)) in
      let b = part_length bytes (512 * k) 512 refl h in
      ext_get_or 0 (block_in altered k) (block_in bytes k) (a ∙ sym b)
      (λ p q.
      let l : p < 512 = omega (arith, a) in
      byte_in altered k p l ∙ same (512 * k + p) (λ (e : 512 * k + p ≡ i). n (omega arith)) ∙ sym (byte_in bytes k p l))

  wrong : (k : ℕ) → k ≡ j → ¬ (T (right_check (block_in altered k)))
  wrong k e = rw e (wrong_block bytes altered first last i read long here small other same)

  -- the answer where the years are in the volume
  module _ (in-volume : T (in_volume (first_year bytes) (end_year bytes) from to)) where
    span : Inside (first_year bytes) (end_year bytes) from to
    span = inside (first_year bytes) (end_year bytes) from to in-volume

    room : (year : ℕ) → first_year bytes ≤ year → year ≤ to → 512 * (year - first_year bytes) + 512 ≤ length bytes
    room year lo hi = omega (arith, span.before)

    looked : marked_answer altered from to ≡ pick (eqb from (first_year altered)) (from_last (block_of_year altered to)) (from_both (block_of_year altered (from - 1)) (block_of_year altered to))
    looked = looks altered from to (rw long (accepted bytes first last read).whole) (rw (named, long) span)

    -- AN ALTERED BYTE IN THE BLOCK OF THE SPAN'S LAST YEAR IS 12
    pub in_last : to - first_year bytes ≡ j → marked_answer altered from to ≡ refused
    in_last e =
        let n = wrong (to - first_year altered) (rw named e) in
        looked
        ∙ pick_cases (λ (a : Result (ℕ × ℕ) Refusal). a ≡ refused) (eqb from (first_year altered)) (from_last (block_of_year altered to)) (from_both (block_of_year altered (from - 1)) (block_of_year altered to))
        (λ t. one_wrong (block_of_year altered to) n)
        (λ t. two_wrong (block_of_year altered (from - 1)) (block_of_year altered to) (λ (r : T (right_check (block_of_year altered (from - 1))) × T (right_check (block_of_year altered to))). n r.1))

    -- AND SO IS ONE IN THE BLOCK OF THE YEAR BEFORE IT, where the span does not start the volume
    pub in_before : first_year bytes < from → from - 1 - first_year bytes ≡ j → marked_answer altered from to ≡ refused
    in_before l e =
        let n = wrong (from - 1 - first_year altered) (rw named e) in
        looked
        ∙ rw (ne_eqb from (first_year altered) (λ (q : from ≡ first_year altered). omega (arith, named)))
        (two_wrong (block_of_year altered (from - 1)) (block_of_year altered to) (λ (r : T (right_check (block_of_year altered (from - 1))) × T (right_check (block_of_year altered to))). n r.0))

    -- IN ANY OTHER BLOCK IT CHANGES NOTHING
    pub in_neither : to - first_year bytes ≢ j → (first_year bytes < from → from - 1 - first_year bytes ≢ j) → marked_answer altered from to ≡ marked_answer bytes from to
    in_neither n m =
        only_these altered bytes from to long (λ w. four)
        (λ w t. rw named (elsewhere (to - first_year bytes) n (room to (omega (arith, span.after, span.order)) (omega arith))))
        (λ w t (l : first_year altered < from).
        let h : first_year bytes < from = omega (arith, named) in
        rw named (elsewhere (from - 1 - first_year bytes) (m h) (room (from - 1) (omega arith) (omega (arith, span.order)))))

    decided : (marked_answer altered from to ≡ marked_answer bytes from to) ⊎ (marked_answer altered from to ≡ refused)
    decided =
        ⊎_elim
        (λ (e : to - first_year bytes ≡ j). inr (in_last e))
        (λ (n : to - first_year bytes ≢ j).
        ⊎_elim
        (λ (l : from ≤ first_year bytes). inl (in_neither n (λ (h : first_year bytes < from). absurd (omega arith))))
        (λ (l : first_year bytes < from).
        ⊎_elim
        (λ (e : from - 1 - first_year bytes ≡ j). inr (in_before l e))
        (λ (m : from - 1 - first_year bytes ≢ j). inl (in_neither n (λ (h : first_year bytes < from). m)))
        (same_or (from - 1 - first_year bytes) j))
        (le_or_lt from (first_year bytes)))
        (same_or (to - first_year bytes) j)

  -- NO ONE ALTERED BYTE PAST THE FIRST FOUR GIVES A WRONG COUNT: a volume of the same length that differs from an accepted one at one such place, and
  -- at no other, has the accepted one's answer or is refused under 12
  pub altered_counted : (marked_answer altered from to ≡ marked_answer bytes from to) ⊎ (marked_answer altered from to ≡ Err Refusal.Block)
  unfolding marked_answer
  altered_counted =
      let test = in_volume (first_year bytes) (end_year bytes) from to in
      ⊎_elim decided (λ (n : ¬ (T test)). inl (rw (named, long, T_false test n))) (decide test)
