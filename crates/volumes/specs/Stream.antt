-- The reader as the program carries it from block to block, so that a volume of any length needs no more memory than one. What a volume's answer is,
-- is defined without this.
-- Assumes nothing.
use Rattle.std.specs.Prelude.{Result, Ok, Err, ◌&&◌, List, ℕ, zero, suc, ◌+◌, ◌-◌, eqb}
use Rattle.reckoning.specs.Search.{pick, all}
use Rattle.refusal.specs.declared.Refusal.{Refusal}
use Rattle.blocks.specs.Bytes.{value32, same}
use Rattle.volumes.specs.Volume.{block_at}
use Rattle.volumes.specs.Volume.{is_run, block_in}
use Rattle.volumes.specs.Reader.{first_year, genuine_at}
use Rattle.volumes.specs.declared.reader.Reader.{Reader}

-- the state after a block that has to be that of a year in the volume from a first year on
unfoldable pub held : ℕ → ℕ → List ℕ → Reader
held first year block = pick (is_run first year && same block (block_at first (year - first))) (Reader.Right first year) Reader.Wrong

-- a state after one block more
unfoldable pub read_on : Reader → List ℕ → Reader
read_on Reader.Empty block = held (value32 block 0) (value32 block 0) block
read_on (Reader.Right first last) block = held first (last + 1) block
read_on Reader.Wrong block = Reader.Wrong

-- what it comes to be after the first k blocks of a volume
unfoldable pub reader_after : List ℕ → ℕ → Reader
reader_after bytes zero = Reader.Empty
reader_after bytes (suc k) = pick (all (genuine_at bytes) (suc k)) (Reader.Right (first_year bytes) (first_year bytes + k)) Reader.Wrong

-- the state after its first k blocks are read one after the other
unfoldable pub read_through : List ℕ → ℕ → Reader
read_through bytes zero = Reader.Empty
read_through bytes (suc k) = read_on (read_through bytes k) (block_in bytes k)

-- the answer where the volume ends with the last block, and where so many bytes come after it
abbrev pub ended : Reader → Result (ℕ × ℕ) Refusal
ended Reader.Empty = Err Refusal.Volume
ended (Reader.Right first last) = Ok (first, last)
ended Reader.Wrong = Err Refusal.Block

unfoldable pub finished : Reader → ℕ → Result (ℕ × ℕ) Refusal
finished s rest = pick (eqb rest 0) (ended s) (Err Refusal.Volume)
