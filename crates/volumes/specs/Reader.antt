-- The reader (02 §6).
-- Assumes nothing.
use Rattle.std.specs.Prelude.{Result, Ok, Err, Bool, ◌&&◌, List, [], ◌∷◌, ℕ, ◌+◌, ◌-◌, ◌/◌, ◌%◌, leb, eqb, length}
use Rattle.reckoning.specs.Search.{pick, all}
use Rattle.refusal.specs.declared.Refusal.{Refusal}
use Rattle.units.specs.Xinghe.{is_year}
use Rattle.blocks.specs.Bytes.{value32, same}
use Rattle.blocks.specs.Check.{right_check}
use Rattle.volumes.specs.Volume.{block_at, block_in}

-- a whole number of blocks, and not none
unfoldable pub whole_blocks : ℕ → Bool
whole_blocks bytes = leb 1 bytes && eqb (bytes % 512) 0

abbrev pub block_count : List ℕ → ℕ
block_count bytes = length bytes / 512

-- the first block's year
abbrev pub first_year : List ℕ → ℕ
first_year bytes = value32 bytes 0

-- the block at an index has a right check, and is what the writer gives for its place and the first block's year
unfoldable pub genuine_at : List ℕ → ℕ → Bool
genuine_at bytes i =
    right_check (block_in bytes i) && (is_year (first_year bytes + i) && same (block_in bytes i) (block_at (first_year bytes) i))

-- the first year and the last: refused under 11 where the bytes are no whole number of blocks or none, then under 12 where a block is not genuine
unfoldable pub read_answer : List ℕ → Result (ℕ × ℕ) Refusal
read_answer bytes =
    pick (whole_blocks (length bytes))
    (pick (all (genuine_at bytes) (block_count bytes))
    (Ok (first_year bytes, first_year bytes + block_count bytes - 1))
    (Err Refusal.Block))
    (Err Refusal.Volume)

-- the two years, 0 where it is refused
abbrev pub read_years : Result (ℕ × ℕ) Refusal → List ℕ
read_years (Ok (first, last)) = first ∷ last ∷ []
read_years (Err e) = 0 ∷ 0 ∷ []
