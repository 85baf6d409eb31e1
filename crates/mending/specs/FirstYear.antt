-- The first year of a scratched volume, from its sound blocks (02 §8).
-- Assumes nothing.
use Rattle.std.specs.Prelude.{Bool, ◌&&◌, ◌||◌, not, List, ℕ, ◌+◌, ◌-◌, eqb}
use Rattle.reckoning.specs.Search.{any, all, first_from}
use Rattle.units.specs.Xinghe.{is_year}
use Rattle.blocks.specs.Bytes.{value32}
use Rattle.blocks.specs.Check.{right_check}
use Rattle.volumes.specs.Volume.{is_run, block_in}
use Rattle.volumes.specs.Reader.{block_count}

-- the year that a block names, in its first four bytes
abbrev pub year_in : List ℕ → ℕ
year_in block = value32 block 0

-- a sound block has a right check and a year in the round
unfoldable pub sound : List ℕ → Bool
sound block = right_check block && is_year (year_in block)

abbrev pub sound_at : List ℕ → ℕ → Bool
sound_at bytes i = sound (block_in bytes i)

-- the year of the first block as the block at an index implies it: the year that it names less the index. Years below 1 all count as 0, which is no
-- year of the round either
abbrev pub implied_at : List ℕ → ℕ → ℕ
implied_at bytes i = year_in (block_in bytes i) - i

-- the year of the first block, taken from the first of the sound ones; it means nothing where none is sound
unfoldable pub implied_first : List ℕ → ℕ
implied_first bytes = implied_at bytes (first_from (sound_at bytes) 0 (block_count bytes))

-- the block at an index implies that first year, if it is sound
unfoldable pub implies_at : List ℕ → ℕ → ℕ → Bool
implies_at bytes first i = not (sound_at bytes i) || eqb (implied_at bytes i) first

-- there is a sound block, the sound ones imply no different first years, and the run from the first year on stays in the round, which shuts out all
-- first years below 1
unfoldable pub known : List ℕ → Bool
known bytes =
    any (sound_at bytes) (block_count bytes)
    && (all (implies_at bytes (implied_first bytes)) (block_count bytes) && is_run (implied_first bytes) (implied_first bytes + block_count bytes - 1))
