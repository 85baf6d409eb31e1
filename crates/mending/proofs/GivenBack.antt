-- A volume that comes back scratched, and is given back as it was.
-- Assumes nothing.
use Rattle.std.specs.Prelude.{Ok}
use mathlib.Core.Path.{◌≡◌, refl, sym, ap, ◌∙◌}
use mathlib.Core.Logic.{◌⊎◌, inl, inr, ⊎_elim}
use mathlib.Core.List.{List, ◌++◌}
use Prim.Native.Nat.{ℕ, suc, ◌+◌, ◌-◌, ◌*◌, ◌/◌, ◌≤◌, ◌<◌}
use native.Mathlib.Omega.{arith}
use lib.Dec.{T}
use lib.ListN.{length, drop, get_or, set}
use Rattle.reckoning.proofs.Searches.{decide, both_left}
use Rattle.units.specs.Xinghe.{is_year}
use Rattle.totals.specs.Totals.{totals}
use Rattle.blocks.specs.Bytes.{same}
use Rattle.blocks.specs.Check.{right_check}
use Rattle.blocks.proofs.Same.{same_eq, same_refl}
use Rattle.blocks.proofs.Small.{block_bytes}
use Rattle.blocks.proofs.Altered as blocks-altered
use Rattle.volumes.specs.Volume.{block_at, block_in}
use Rattle.volumes.specs.Reader.{block_count, read_answer}
use Rattle.volumes.proofs.Runs.{part_length}
use Rattle.volumes.proofs.Parts.{right_at}
use Rattle.volumes.proofs.Altered.{one_place}
use Rattle.volumes.proofs.Answered.{accepted}
use Rattle.mending.specs.FirstYear.{year_in, sound, sound_at}
use Rattle.mending.specs.Mended.{most_blocks, called_for, differing, mend_answer, after_mend, after_notes}
use Rattle.mending.proofs.Implied.{Implied}
use Rattle.mending.proofs.Answered.{Answered, mends, after_is, notes_are}
use Rattle.mending.proofs.Listed.{Lists, lists, listed_by}
use Rattle.mending.proofs.Kept as volume-kept

-- what came back of a volume: it is as long as it was, at least one block is left whole, and no block that was damaged is sound
pub record Scratched (volume back : List ℕ) : Type 0 where
  pub long : length back ≡ length volume
  pub whole : (i : ℕ) × (i < block_count volume) × (block_in back i ≡ block_in volume i)
  pub unsound : (i : ℕ) → i < block_count volume → ¬ (block_in back i ≡ block_in volume i) → ¬ (T (sound_at back i))

-- what is told of what came back: the indices of the blocks that are not as they were, and of no other, ascending and each once; the answer is their
-- number, and they are at the front of the lent list
pub record Told (volume back : List ℕ) : Type 0 where
  pub indices : List ℕ
  pub listed : Lists (λ i. same (block_in back i) (block_in volume i)) (block_count volume) indices
  pub number : mend_answer back ≡ Ok (length indices)
  pub noted : (list : List ℕ) → after_notes back list ≡ indices ++ drop (length indices) list

-- whether a block is left whole can be told
whole_or : (a b : List ℕ) → (a ≡ b) ⊎ (¬ (a ≡ b))
whole_or a b =
    ⊎_elim
    (λ (t : T (same a b)). inl (same_eq a b t))
    (λ (n : ¬ (T (same a b))). inr (λ (e : a ≡ b). n (rw e (same_refl b))))
    (decide (same a b))

-- an accepted volume of at most 1,024 blocks, and bytes of its length whose sound blocks imply its first year
module _ (volume back : List ℕ) (first last : ℕ) (read : read_answer volume ≡ Ok (first, last)) (most : block_count volume ≤ most_blocks) (long : length back ≡ length volume) (implied : Implied back first) where
  answer : Answered back first (length (differing back first (block_count back)))
  answer = record { whole = rw long (volume-kept.mendable_length volume first last read most); implied = implied; count = refl }

  -- MENDING GIVES THE VOLUME BACK, whatever else the bytes are
  pub implied_back : after_mend back ≡ volume
  implied_back =
      let end : first + block_count back - 1 ≡ last = ap (λ (b : ℕ). first + b / 512 - 1) long ∙ volume-kept.end volume first last read most in
      after_is back first (length (differing back first (block_count back))) answer ∙ rw end (sym (accepted volume first last read).is)

  -- AND TELLS WHICH BLOCKS WERE DAMAGED
  pub implied_told : Told volume back
  unfolding called_for
  implied_told =
      let same_count : block_count back ≡ block_count volume = ap (λ (b : ℕ). b / 512) long in
      let indices = differing back first (block_count back) in
      record {
        indices = indices;
        listed = listed_by (called_for back first) (λ i. same (block_in back i) (block_in volume i)) (block_count volume) indices
            (λ i h. ap (same (block_in back i)) (sym (volume-kept.own volume first last read most i h))) (rw (← same_count) (lists back first (block_count back)));
        number = mends back first (length indices) answer;
        noted = λ list. notes_are back first (length indices) answer list;
      }

module _ (volume back : List ℕ) (first last : ℕ) (read : read_answer volume ≡ Ok (first, last)) (most : block_count volume ≤ most_blocks) (s : Scratched volume back) where
  abbrev n : ℕ
  n = block_count volume

  count_is : block_count back ≡ n
  count_is = omega (arith, s.long)

  own : (i : ℕ) → i < n → block_in volume i ≡ block_at first i
  own = volume-kept.own volume first last read most

  -- a sound block is whole, and names its year
  names : (i : ℕ) → i < n → T (sound_at back i) → year_in (block_in back i) ≡ first + i
  names i h t =
      ⊎_elim
      (λ (e : block_in back i ≡ block_in volume i). rw (e, own i h) (volume-kept.named first i (volume-kept.up_to volume first last read most i h)))
      (λ (x : ¬ (block_in back i ≡ block_in volume i)). absurd (s.unsound i h x t))
      (whole_or (block_in back i) (block_in volume i))

  implied : Implied back first
  implied =
      let w = s.whole in
      record {
        some = (w.0, omega (arith, w.1, count_is), rw (w.2, own w.0 w.1) (volume-kept.is_sound first w.0 (volume-kept.up_to volume first last read most w.0 w.1)));
        named = λ i h t. names i (omega (arith, h, count_is)) t;
        run = rw (count_is, volume-kept.end volume first last read most) (accepted volume first last read).run;
      }

  -- OF A VOLUME THAT THE READER ACCEPTS, of at most 1,024 blocks, let blocks be damaged: where at least one is left whole and no damaged one is sound,
  -- MENDING GIVES THE VOLUME BACK, BYTE FOR BYTE
  pub given_back : after_mend back ≡ volume
  given_back = implied_back volume back first last read most s.long implied

  -- AND TELLS WHICH BLOCKS WERE DAMAGED
  pub told : Told volume back
  told = implied_told volume back first last read most s.long implied

-- a block that differs from another in one byte, and in no other
pub record OneByte (was is : List ℕ) : Type 0 where
  pub place : ℕ
  pub inside : place < 512
  pub other : ¬ (get_or was place 0 ≡ get_or is place 0)
  pub byte : get_or is place 0 < 256
  pub rest : (k : ℕ) → ¬ (k ≡ place) → get_or is k 0 ≡ get_or was k 0

-- an accepted volume of at most 1,024 blocks, and bytes of its length
module _ (volume back : List ℕ) (first last : ℕ) (read : read_answer volume ≡ Ok (first, last)) (most : block_count volume ≤ most_blocks) (long : length back ≡ length volume) where
  -- ONE ALTERED BYTE OF A BLOCK MAKES IT UNSOUND
  pub unsound : (i : ℕ) → i < block_count volume → OneByte (block_in volume i) (block_in back i) → ¬ (T (sound_at back i))
  unfolding sound block_at
  unsound i h o t =
      let was = block_in volume i in
      let is = block_in back i in
      let here = volume-kept.own volume first last read most i h in
      let a : length was ≡ 512 = part_length volume (512 * i) 512 refl (omega arith) in
      let b : length is ≡ 512 = part_length back (512 * i) 512 refl (omega (arith, long)) in
      let one : is ≡ set was o.place (get_or is o.place 0) = one_place was is o.place (b ∙ sym a) (omega (arith, a, o.inside)) o.rest in
      let small : (k : ℕ) → get_or was k 0 < 256 = rw here (block_bytes (first + i) (totals first (suc i))) in
      let right : T (right_check was) = rw here (right_at first i) in
      blocks-altered.altered was o.place (get_or is o.place 0) a small o.byte o.other o.inside right (rw one at (both_left (right_check is) (is_year (year_in is)) t))

-- what came back of a volume with at most one altered byte in each block, and at least one block left whole
pub record SingleBytes (volume back : List ℕ) : Type 0 where
  pub long : length back ≡ length volume
  pub whole : (i : ℕ) × (i < block_count volume) × (block_in back i ≡ block_in volume i)
  pub errors : (i : ℕ) → i < block_count volume → ¬ (block_in back i ≡ block_in volume i) → OneByte (block_in volume i) (block_in back i)

-- SUCH A VOLUME IS GIVEN BACK, whatever the altered bytes are and wherever they stand
pub single_bytes_back : (volume back : List ℕ) (first last : ℕ) → read_answer volume ≡ Ok (first, last) → block_count volume ≤ most_blocks → SingleBytes volume back → after_mend back ≡ volume
single_bytes_back volume back first last read most p =
    given_back volume back first last read most
    (record { long = p.long; whole = p.whole; unsound = λ i h x. unsound volume back first last read most p.long i h (p.errors i h x) })
