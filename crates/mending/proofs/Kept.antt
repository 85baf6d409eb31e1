-- The reader accepts every mended volume, and a volume of at most 1,024 blocks that it accepts is mended by leaving it as it is.
-- Assumes nothing.
use Rattle.std.specs.Prelude.{Ok}
use mathlib.Core.Path.{◌≡◌, refl, sym, ap, ◌∙◌}
use mathlib.Core.List.{List, []}
use Prim.Native.Nat.{ℕ, zero, suc, ◌+◌, ◌-◌, ◌/◌, ◌≤◌, ◌<◌}
use native.Mathlib.Omega.{arith}
use lib.Dec.{T, leb, le→leb}
use lib.ListN.{length}
use Rattle.reckoning.proofs.Searches.{T_true, both_T}
use Rattle.units.specs.Xinghe.{is_year}
use Rattle.totals.specs.Totals.{totals}
use Rattle.blocks.specs.Bytes.{same}
use Rattle.blocks.specs.Check.{right_check}
use Rattle.blocks.proofs.Same.{same_refl}
use Rattle.blocks.proofs.Values.{year_of_lem}
use Rattle.volumes.specs.Volume.{Run, block_at, block_in}
use Rattle.volumes.specs.Reader.{whole_blocks, block_count, read_answer}
use Rattle.volumes.proofs.Runs.{year_in_lem, blocks_length}
use Rattle.volumes.proofs.Parts.{block_in_lem, right_at}
use Rattle.volumes.proofs.Answered.{Accepted, accepted}
use Rattle.volumes.proofs.Undo.{read_volume}
use Rattle.mending.specs.FirstYear.{year_in, sound, implied_first}
use Rattle.mending.specs.Mended.{most_blocks, mendable, called_for, differing, mend_answer, after_mend, after_notes}
use Rattle.mending.proofs.FirstYears.{length_of_lem}
use Rattle.mending.proofs.Answered.{Answered, answered, mends, after_is, notes_are}

-- a block of the writer's names its year and is sound
module _ (first i : ℕ) (run : Run first (first + i)) where
  pub named : year_in (block_at first i) ≡ first + i
  unfolding block_at
  named = year_of_lem (first + i) (totals first (suc i)) (omega (arith, run.most))

  pub is_sound : T (sound (block_at first i))
  unfolding sound
  is_sound =
      both_T (right_check (block_at first i)) (is_year (year_in (block_at first i))) (right_at first i)
      (rw named (year_in_lem (first + i) (omega (arith, run.least)) run.most))

-- THE READER ACCEPTS EVERY MENDED VOLUME, and answers the first year that the scratched volume's sound blocks implied, and the last of as many years as
-- there are blocks
pub mended_read : (bytes : List ℕ) (k : ℕ) → mend_answer bytes ≡ Ok k → read_answer (after_mend bytes) ≡ Ok ((implied_first bytes), (implied_first bytes + block_count bytes - 1))
mended_read bytes k e =
    let a = answered bytes k e in
    ap read_answer (after_is bytes (implied_first bytes) k a) ∙ read_volume (implied_first bytes) (implied_first bytes + block_count bytes - 1) a.implied.run

-- all blocks are what their years call for
none_differs : (bytes : List ℕ) (first k : ℕ) → ((i : ℕ) → i < k → block_in bytes i ≡ block_at first i) → differing bytes first k ≡ []
unfolding differing called_for
none_differs bytes first zero each = refl
none_differs bytes first (suc k) each =
    rw (none_differs bytes first k (λ i h. each i (omega arith)), each k (omega arith), T_true (same (block_at first k) (block_at first k)) (same_refl (block_at first k))) refl

-- a volume that the reader accepts, of at most 1,024 blocks
module _ (bytes : List ℕ) (first last : ℕ) (read : read_answer bytes ≡ Ok (first, last)) (most : block_count bytes ≤ most_blocks) where
  is : Accepted bytes first last
  is = accepted bytes first last read

  pub end : first + block_count bytes - 1 ≡ last
  end = omega (arith, is.count, is.run.order)

  pub own : (i : ℕ) → i < block_count bytes → block_in bytes i ≡ block_at first i
  own i h = ap (λ (l : List ℕ). block_in l i) is.is ∙ block_in_lem first (last + 1 - first) i (omega (arith, is.count))

  pub up_to : (i : ℕ) → i < block_count bytes → Run first (first + i)
  up_to i h = record { least = is.run.least; order = omega arith; most = omega (arith, is.run.most, is.count) }

  pub mendable_length : T (mendable (length bytes))
  unfolding mendable
  mendable_length = both_T (whole_blocks (length bytes)) (leb (length bytes / 512) most_blocks) is.whole (le→leb (length bytes / 512) most_blocks most)

  answer : Answered bytes first 0
  answer =
      let some : 0 < block_count bytes = omega (arith, is.count, is.run.order) in
      record {
        whole = mendable_length;
        implied = record {
          some = (0, some, rw (own 0 some) (is_sound first 0 (up_to 0 some)));
          named = λ i h t. rw (own i h) (named first i (up_to i h));
          run = rw end is.run;
        };
        count = rw (none_differs bytes first (block_count bytes) own) refl;
      }

  -- A VOLUME THAT THE READER ACCEPTS IS ANSWERED WITH NO INDEX
  pub none_damaged : mend_answer bytes ≡ Ok 0
  none_damaged = mends bytes first 0 answer

  -- THE SAME BYTES
  pub kept : after_mend bytes ≡ bytes
  kept = after_is bytes first 0 answer ∙ rw end (sym is.is)

  -- AND THE LIST AS IT WAS LENT
  pub list_kept : (list : List ℕ) → after_notes bytes list ≡ list
  list_kept list = notes_are bytes first 0 answer list ∙ rw (none_differs bytes first (block_count bytes) own) refl

-- MENDING A MENDED VOLUME AGAIN FINDS NOTHING AND CHANGES NOTHING
module _ (bytes : List ℕ) (k : ℕ) (e : mend_answer bytes ≡ Ok k) where
  few : block_count (after_mend bytes) ≤ most_blocks
  few =
      let a = answered bytes k e in
      let f = implied_first bytes in
      let n : ℕ = block_count bytes in
      let l = length_of_lem (length bytes) a.whole in
      rw (after_is bytes f k a) (omega (arith, l, blocks_length f (f + n - 1 + 1 - f)))

  pub again : mend_answer (after_mend bytes) ≡ Ok 0
  again = none_damaged (after_mend bytes) (implied_first bytes) (implied_first bytes + block_count bytes - 1) (mended_read bytes k e) few

  pub again_kept : after_mend (after_mend bytes) ≡ after_mend bytes
  again_kept = kept (after_mend bytes) (implied_first bytes) (implied_first bytes + block_count bytes - 1) (mended_read bytes k e) few

  pub again_list : (list : List ℕ) → after_notes (after_mend bytes) list ≡ list
  again_list list = list_kept (after_mend bytes) (implied_first bytes) (implied_first bytes + block_count bytes - 1) (mended_read bytes k e) few list
