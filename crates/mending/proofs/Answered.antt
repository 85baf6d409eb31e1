-- What an answer says, and when it is given.
-- Assumes nothing.
use Rattle.std.specs.Prelude.{Result, Ok, Err}
use mathlib.Core.Path.{◌≡◌, refl, sym, ap, ◌∙◌}
use mathlib.Core.Logic.{◌↔◌}
use mathlib.Core.Bool.{Bool, true, false}
use mathlib.Core.List.{List, ◌++◌}
use Prim.Native.Nat.{ℕ, ◌+◌, ◌-◌, ◌≤◌, ◌<◌}
use native.Mathlib.Omega.{arith}
use lib.Dec.{T}
use lib.ListN.{length, take, drop, length-append, length-drop}
use lib.Seq.{take_at}
use Rattle.reckoning.specs.Search.{pick}
use Rattle.reckoning.proofs.Searches.{T_true}
use Rattle.refusal.specs.declared.Refusal.{Refusal}
use Rattle.blocks.proofs.Same.{same_eq}
use Rattle.volumes.specs.Volume.{block_at, blocks, volume_of, block_in}
use Rattle.volumes.specs.Reader.{block_count}
use Rattle.volumes.proofs.Parts.{block_in_lem}
use Rattle.mending.specs.FirstYear.{implied_first, known}
use Rattle.mending.specs.Mended.{most_blocks, mendable, called_for, differing, damaged, mend_answer, volume_after, list_after, after_mend, after_notes}
use Rattle.mending.proofs.FirstYears.{length_of_lem}
use Rattle.mending.proofs.Notes.{afresh_is, differing_few}
use Rattle.mending.proofs.Implied.{Implied, known_implied, first_implied, implied_known}

tests : (p q : Bool) (m k : ℕ) → pick p (pick q (Ok m) (Err Refusal.FirstYear)) (Err Refusal.Volume) ≡ Ok k → (T p) × (T q) × (m ≡ k)
tests true true m k e = (tt, tt, cc)
tests true false m k e = let z : ◌≡◌ {A = ℕ} 0 1 = cc in absurd (omega arith)
tests false q m k e = let z : ◌≡◌ {A = ℕ} 0 1 = cc in absurd (omega arith)

-- one to 1,024 whole blocks whose sound ones imply a first year, and so many blocks that differ from what it calls for
pub record Answered (bytes : List ℕ) (first k : ℕ) : Type 0 where
  pub whole : T (mendable (length bytes))
  pub implied : Implied bytes first
  pub count : k ≡ length (differing bytes first (block_count bytes))

pub answered : (bytes : List ℕ) (k : ℕ) → mend_answer bytes ≡ Ok k → Answered bytes (implied_first bytes) k
unfolding mend_answer
answered bytes k e =
    let t = tests (mendable (length bytes)) (known bytes) (length (damaged bytes)) k e in
    record { whole = t.0; implied = known_implied bytes t.1; count = sym t.2 }

module _ (bytes : List ℕ) (first k : ℕ) (a : Answered bytes first k) where
  first_is : implied_first bytes ≡ first
  first_is = first_implied bytes first a.implied

  pub mends : mend_answer bytes ≡ Ok k
  unfolding mend_answer
  mends =
      rw (T_true (mendable (length bytes)) a.whole, T_true (known bytes) (implied_known bytes first a.implied), first_is, a.count)

  -- THE VOLUME AFTERWARDS IS THE WRITER'S, from the first year on, for as many years as there are blocks
  pub after_is : after_mend bytes ≡ volume_of first (first + block_count bytes - 1)
  unfolding volume_after
  after_is =
      let years : first + block_count bytes - 1 + 1 - first ≡ block_count bytes = omega (arith, length_of_lem (length bytes) a.whole) in
      rw (mends, years) (afresh_is bytes (implied_first bytes) (block_count bytes) ∙ ap (λ (f : ℕ). blocks f (block_count bytes)) first_is)

  -- EACH BLOCK OF IT IS WHAT ITS YEAR AND THE FIRST YEAR CALL FOR
  pub after_block : (i : ℕ) → i < block_count bytes → block_in (after_mend bytes) i ≡ block_at first i
  after_block i h =
      ap (λ (l : List ℕ). block_in l i) after_is ∙ block_in_lem first (first + block_count bytes - 1 + 1 - first) i (omega (arith, h, a.implied.run.order))

  -- AND ONE THAT WAS SO BEFORE, and is not listed, IS AS IT WAS
  pub left_alone : (i : ℕ) → i < block_count bytes → T (called_for bytes first i) → block_in (after_mend bytes) i ≡ block_in bytes i
  unfolding called_for
  left_alone i h t = after_block i h ∙ sym (same_eq (block_in bytes i) (block_at first i) t)

  -- THE LENT LIST has the indices of the blocks that differed at its front
  pub notes_are : (list : List ℕ) → after_notes bytes list ≡ differing bytes first (block_count bytes) ++ drop k list
  unfolding list_after
  notes_are list = rw (mends, first_is) refl

-- A VOLUME IS MENDED EXACTLY WHERE it has one to 1,024 whole blocks, one of them is sound, each sound one names one first year plus its index, and
-- the run from that year on stays in the round; and the answer is how many blocks differ from what that year calls for
pub mends_exactly : (bytes : List ℕ) (k : ℕ) → (mend_answer bytes ≡ Ok k) ↔ ((first : ℕ) × Answered bytes first k)
mends_exactly bytes k = (λ e. (implied_first bytes, answered bytes k e), λ w. mends bytes w.0 k w.1)

-- how many indices are noted at the most, that the answer is how many, and that they are the front of the lent list
pub record Noted (bytes list : List ℕ) (k : ℕ) : Type 0 where
  pub few : k ≤ most_blocks
  pub count : length (damaged bytes) ≡ k
  pub front : take k (after_notes bytes list) ≡ damaged bytes

pub noted : (bytes list : List ℕ) (k : ℕ) → mend_answer bytes ≡ Ok k → Noted bytes list k
unfolding list_after
noted bytes list k e =
    let a = answered bytes k e in
    record {
      few = omega (arith, a.count, differing_few bytes (implied_first bytes) (block_count bytes), (length_of_lem (length bytes) a.whole).most);
      count = sym a.count;
      front = rw e (take_at (damaged bytes) (drop k list) k (sym a.count));
    }

-- THE LENT LIST STAYS AS LONG AS IT WAS, where it has room for 1,024 numbers
pub notes_length : (bytes list : List ℕ) → most_blocks ≤ length list → length (after_notes bytes list) ≡ length list
unfolding list_after
notes_length bytes list room = go (mend_answer bytes) refl
  where
    go : (a : Result ℕ Refusal) → mend_answer bytes ≡ a → length (list_after a bytes list) ≡ length list
    go (Ok k) q =
        let o = noted bytes list k q in
        omega (arith, length-append (damaged bytes) (drop k list), length-drop k list, o.few, o.count)
    go (Err e) q = refl
