-- Mending a scratched volume (02 §8).
-- Assumes nothing.
use Rattle.std.specs.Prelude.{Result, Ok, Err, Bool, ◌&&◌, List, [], ◌∷◌, ◌++◌, ℕ, zero, suc, ◌/◌, leb, length, drop}
use Rattle.reckoning.specs.Search.{pick}
use Rattle.refusal.specs.declared.Refusal.{Refusal}
use Rattle.blocks.specs.Bytes.{same}
use Rattle.volumes.specs.Volume.{block_at, block_in}
use Rattle.volumes.specs.Reader.{whole_blocks, block_count}
use Rattle.mending.specs.FirstYear.{implied_first, known}

-- how many blocks a volume to be mended has at the most
abbrev pub most_blocks : ℕ
most_blocks = 1024

-- so many bytes are a whole number of blocks, not none, and at most 1,024 of them
unfoldable pub mendable : ℕ → Bool
mendable bytes = whole_blocks bytes && leb (bytes / 512) most_blocks

-- the block at an index is what the first year and its own year, the first year plus the index, call for
unfoldable pub called_for : List ℕ → ℕ → ℕ → Bool
called_for bytes first i = same (block_in bytes i) (block_at first i)

-- the indices from 0, ascending, of those of the first k blocks that differ from what is called for
unfoldable pub differing : List ℕ → ℕ → ℕ → List ℕ
differing bytes first zero = []
differing bytes first (suc i) = differing bytes first i ++ pick (called_for bytes first i) [] (i ∷ [])

-- the first k blocks where each that differs is written afresh
unfoldable pub afresh : List ℕ → ℕ → ℕ → List ℕ
afresh bytes first zero = []
afresh bytes first (suc i) = afresh bytes first i ++ pick (called_for bytes first i) (block_in bytes i) (block_at first i)

-- the damaged blocks' indices, a sound block that differs among them, and the mended volume
abbrev pub damaged : List ℕ → List ℕ
damaged bytes = differing bytes (implied_first bytes) (block_count bytes)

abbrev pub mended : List ℕ → List ℕ
mended bytes = afresh bytes (implied_first bytes) (block_count bytes)

-- how many blocks are damaged: refused under 11 where the bytes are no whole number of blocks, none, or more than 1,024, then under 13 where no first
-- year is known
unfoldable pub mend_answer : List ℕ → Result ℕ Refusal
mend_answer bytes =
    pick (mendable (length bytes))
    (pick (known bytes) (Ok (length (damaged bytes))) (Err Refusal.FirstYear))
    (Err Refusal.Volume)

-- the volume afterwards, and the lent list, which has 1,024 numbers: the indices at its front, and the rest as it was; refused, both as they were
unfoldable pub volume_after : Result ℕ Refusal → List ℕ → List ℕ
volume_after (Ok k) bytes = mended bytes
volume_after (Err e) bytes = bytes

unfoldable pub list_after : Result ℕ Refusal → List ℕ → List ℕ → List ℕ
list_after (Ok k) bytes list = damaged bytes ++ drop k list
list_after (Err e) bytes list = list

abbrev pub after_mend : List ℕ → List ℕ
after_mend bytes = volume_after (mend_answer bytes) bytes

abbrev pub after_notes : List ℕ → List ℕ → List ℕ
after_notes bytes list = list_after (mend_answer bytes) bytes list
