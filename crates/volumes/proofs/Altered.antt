-- A volume that differs from an accepted one in one byte is refused under 12.
-- Assumes nothing.
use Rattle.std.specs.Prelude.{Ok, Err}
use mathlib.Core.Path.{◌≡◌, refl, sym, ap, ◌∙◌}
use mathlib.Core.Logic.{⊎_elim, ◌≢◌}
use mathlib.Core.List.{List}
use Prim.Native.Nat.{ℕ, zero, suc, ◌+◌, ◌-◌, ◌*◌, ◌/◌, ◌%◌, ◌<◌}
use native.Mathlib.Omega.{arith}
use borrow.Author.Tests.{le-leb, eq-eqb}
use lib.Dec.{T}
use lib.ListN.{length, get_or, set, length-set}
use lib.Seq.{ext_get_or, get_or-set_same, get_or-set_other}
use Rattle.reckoning.specs.Search.{all}
use Rattle.reckoning.proofs.Searches.{T_false, all_at, same_or}
use Rattle.refusal.specs.declared.Refusal.{Refusal}
use Rattle.totals.specs.Totals.{totals}
use Rattle.blocks.specs.Check.{right_check}
use Rattle.blocks.proofs.Altered as blocks-altered
use Rattle.blocks.proofs.Small.{Bytes, none, joined, block_bytes}
use Rattle.volumes.specs.Volume.{block_at, blocks, block_in}
use Rattle.volumes.specs.Reader.{whole_blocks, block_count, genuine_at, read_answer}
use Rattle.volumes.proofs.Runs.{part_length, blocks_length}
use Rattle.volumes.proofs.Parts.{block_in_lem, byte_in, set_in, right_at, small_in}
use Rattle.volumes.proofs.Genuine.{genuine_right}
use Rattle.volumes.proofs.Answered.{accepted}

-- what the writer gives is made of bytes
blocks_bytes : (first k : ℕ) → Bytes (blocks first k)
unfolding blocks block_at
blocks_bytes first zero = none
blocks_bytes first (suc k) = joined (blocks first k) (block_at first k) (blocks_bytes first k) (block_bytes (first + k) (totals first (suc k)))

module _ (bytes : List ℕ) (first last i b : ℕ) (read : read_answer bytes ≡ Ok (first, last)) (here : i < length bytes) (small : b < 256) (other : get_or bytes i 0 ≡ b → ⊥) where
  abbrev j : ℕ
  j = i / 512

  years : length bytes ≡ 512 * (last + 1 - first)
  years = ap length (accepted bytes first last read).is ∙ blocks_length first (last + 1 - first)

  are_bytes : Bytes bytes
  are_bytes = rw (accepted bytes first last read).is (blocks_bytes first (last + 1 - first))

  was_right : T (right_check (block_in bytes j))
  was_right =
      let a = accepted bytes first last read in
      rw (a.is, block_in_lem first (last + 1 - first) j (omega (arith, years))) (right_at first j)

  -- the block with that byte has a wrong check
  wrong : ¬ (T (right_check (block_in (set bytes i b) j)))
  wrong =
      let k = i % 512 in
      let place : 512 * j + k ≡ i = omega arith in
      let byte : get_or (block_in bytes j) k 0 ≡ get_or bytes i 0 = rw place at (byte_in bytes j k (omega arith)) in
      let long : length (block_in bytes j) ≡ 512 = part_length bytes (512 * j) 512 refl (omega (arith, years)) in
      let moved : block_in (set bytes i b) j ≡ set (block_in bytes j) k b = rw place at (set_in bytes j k b (omega arith)) in
      rw moved (blocks-altered.altered (block_in bytes j) k b long (small_in bytes j long are_bytes) small (λ (e : get_or (block_in bytes j) k 0 ≡ b). other (sym byte ∙ e)) (omega arith) was_right)

  -- an accepted volume with another byte put at a place is refused under 12
  set_refused : read_answer (set bytes i b) ≡ Err Refusal.Block
  unfolding read_answer whole_blocks
  set_refused =
      let new = set bytes i b in
      let long = length-set bytes i b in
      rw (
        T_false (all (genuine_at new) (block_count new)) (λ t. wrong (genuine_right new j (all_at (genuine_at new) (block_count new) t j (omega (arith, long, years))))),
        le-leb 1 (length new) (omega (arith, long)),
        eq-eqb (length new % 512) 0 (omega (arith, long, years)),
      )

-- a list with the byte of another at a place, where the two agree at all others
pub one_place : (xs ys : List ℕ) (i : ℕ) → length ys ≡ length xs → i < length xs → ((k : ℕ) → ¬ (k ≡ i) → get_or ys k 0 ≡ get_or xs k 0) → ys ≡ set xs i (get_or ys i 0)
one_place xs ys i e h same =
    let v = get_or ys i 0 in
    ext_get_or 0 ys (set xs i v) (e ∙ sym (length-set xs i v))
    (λ k b. ⊎_elim
    (λ (q : k ≡ i). rw q (sym (get_or-set_same xs i v 0 h)))
    (λ (n : k ≢ i). same k n ∙ sym (get_or-set_other xs i k v 0 n))
    (same_or k i))

-- a volume that differs from an accepted one at one place, and at no other
module _ (bytes altered : List ℕ) (first last i : ℕ) (read : read_answer bytes ≡ Ok (first, last)) (long : length altered ≡ length bytes) (here : i < length bytes) (small : get_or altered i 0 < 256) (other : ¬ (get_or bytes i 0 ≡ get_or altered i 0)) (same : (k : ℕ) → ¬ (k ≡ i) → get_or altered k 0 ≡ get_or bytes k 0) where
  -- THE BLOCK WITH THAT BYTE HAS A WRONG CHECK
  pub wrong_block : ¬ (T (right_check (block_in altered (i / 512))))
  wrong_block = rw (one_place bytes altered i long here same) (wrong bytes first last i (get_or altered i 0) read here small other)

  -- ANY ONE ALTERED BYTE OF AN ACCEPTED VOLUME IS CAUGHT: a volume of the same length that differs from it at one place, and at no other, is
  -- refused under 12
  pub altered_refused : read_answer altered ≡ Err Refusal.Block
  altered_refused = ap read_answer (one_place bytes altered i long here same) ∙ set_refused bytes first last i (get_or altered i 0) read here small other
