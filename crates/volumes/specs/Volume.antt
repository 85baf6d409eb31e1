-- A volume (02 §6): a run of consecutive years, one block a year.
-- Assumes nothing.
use Rattle.std.specs.Prelude.{Bool, ◌&&◌, List, [], ◌++◌, ℕ, zero, suc, ◌+◌, ◌-◌, ◌*◌, ◌≤◌, leb, take, drop}
use Rattle.units.specs.Xinghe.{round_years, is_year}
use Rattle.totals.specs.Totals.{totals}
use Rattle.blocks.specs.Block.{block_of}

-- the years from one to another are a run of the round's
pub record Run (first last : ℕ) : Type 0 where
  pub least : 1 ≤ first
  pub order : first ≤ last
  pub most : last ≤ round_years

-- the same as a test
unfoldable pub is_run : ℕ → ℕ → Bool
is_run first last = is_year first && (is_year last && leb first last)

-- the block at an index: the first year plus the index, with the totals since the first year, this one included
unfoldable pub block_at : ℕ → ℕ → List ℕ
block_at first i = block_of (first + i) (totals first (suc i))

-- the blocks of k years from the first on
unfoldable pub blocks : ℕ → ℕ → List ℕ
blocks first zero = []
blocks first (suc k) = blocks first k ++ block_at first k

-- the volume from one year to another, both included
abbrev pub volume_of : ℕ → ℕ → List ℕ
volume_of first last = blocks first (last + 1 - first)

-- the bytes of the block at an index
abbrev pub block_in : List ℕ → ℕ → List ℕ
block_in bytes i = take 512 (drop (512 * i) bytes)
