-- The numbers of the writer and the reader, and what is refused.
-- Assumes nothing.
use Rattle.std.specs.Prelude.{Ok, Err}
use Rattle.refusal.specs.Numbers.{answer_number}
use mathlib.Core.Path.{◌≡◌, refl}
use mathlib.Core.Bool.{Bool, true, false, ◌&&◌}
use mathlib.Core.List.{List}
use Prim.Native.Nat.{ℕ, ◌+◌, ◌-◌, ◌*◌, ◌<◌}
use native.Mathlib.Omega.{arith}
use lib.Dec.{T, leb}
use lib.ListN.{length}
use Rattle.reckoning.specs.Search.{pick, between, all}
use Rattle.reckoning.proofs.Searches.{T_true, T_false, all_at}
use Rattle.refusal.specs.declared.Refusal.{Refusal}
use Rattle.units.specs.Xinghe.{is_year}
use Rattle.blocks.specs.Bytes.{zeros}
use Rattle.blocks.specs.Check.{weighted, right_check}
use Rattle.volumes.specs.Writer.{span_answer, write_for, write_answer}
use Rattle.volumes.specs.Reader.{whole_blocks, block_count, first_year, genuine_at, read_answer}
use Rattle.volumes.proofs.Genuine.{genuine_year}

-- THE WRITER'S NUMBERS: 1 where the round has not both years, then 2 where they are in the wrong order, then 6 where there are fewer bytes than the
-- volume has
pub write_numbers : (first last room : ℕ) → answer_number (write_answer first last room) ≡ pick (is_year first && is_year last) (pick (leb first last) (pick (leb (512 * (last + 1 - first)) room) 0 6) 2) 1
unfolding write_for span_answer
write_numbers first last room = go (is_year first && is_year last) (leb first last) (leb (512 * (last + 1 - first)) room) refl
  where
    go : (p q r : Bool) → leb (512 * (last + 1 - first)) room ≡ r → answer_number (write_for (pick p (pick q (Ok (last + 1 - first)) (Err Refusal.Span)) (Err Refusal.Year)) room) ≡ pick p (pick q (pick r 0 6) 2) 1
    go true true true e = rw e
    go true true false e = rw e
    go true false r e = refl
    go false q r e = refl

-- THE READER'S NUMBERS: 11 where the bytes are no whole number of blocks or none, then 12 where a block is not genuine
pub read_numbers : (bytes : List ℕ) → answer_number (read_answer bytes) ≡ pick (whole_blocks (length bytes)) (pick (all (genuine_at bytes) (block_count bytes)) 0 12) 11
unfolding read_answer
read_numbers bytes = go (whole_blocks (length bytes)) (all (genuine_at bytes) (block_count bytes))
  where
    go : (p q : Bool) → answer_number {T = ℕ × ℕ} (pick p (pick q (Ok (first_year bytes, first_year bytes + block_count bytes - 1)) (Err Refusal.Block)) (Err Refusal.Volume)) ≡ pick p (pick q 0 12) 11
    go true true = refl
    go true false = refl
    go false q = refl

-- A BLOCK THAT IS NOT GENUINE, in whole blocks, makes it 12
pub block_refused : (bytes : List ℕ) (i : ℕ) → T (whole_blocks (length bytes)) → i < block_count bytes → ¬ (T (genuine_at bytes i)) → read_answer bytes ≡ Err Refusal.Block
unfolding read_answer
block_refused bytes i w h n =
    rw (T_true (whole_blocks (length bytes)) w, T_false (all (genuine_at bytes) (block_count bytes)) (λ t. n (all_at (genuine_at bytes) (block_count bytes) t i h)))

-- SO DOES A FIRST YEAR OF 0, AND A RUN THAT LEAVES THE ROUND: a block whose place and the first block's year make no year of it
pub no_year_refused : (bytes : List ℕ) (i : ℕ) → T (whole_blocks (length bytes)) → i < block_count bytes → ¬ (T (is_year (first_year bytes + i))) → read_answer bytes ≡ Err Refusal.Block
no_year_refused bytes i w h n = block_refused bytes i w h (λ t. n (genuine_year bytes i t))

-- 512 ZEROS HAVE A RIGHT CHECK, AND ARE NO VOLUME
pub zeros_right : T (right_check (zeros 512))
unfolding right_check weighted
zeros_right = tt

pub zeros_refused : read_answer (zeros 512) ≡ Err Refusal.Block
unfolding whole_blocks between
zeros_refused = no_year_refused (zeros 512) 0 tt (omega arith) (λ t. t)
