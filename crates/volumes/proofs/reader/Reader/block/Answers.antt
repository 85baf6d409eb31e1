use native.Mathlib.Omega.{arith}
use mathlib.Core.Bool.{◌&&◌}
use Prim.Native.Nat.{◌+◌, ◌-◌}
use Rattle.reckoning.proofs.Searches.{T_false, both_left}
use Rattle.blocks.specs.Bytes.{same}
use Rattle.volumes.specs.Volume.{block_at, is_run}
use Rattle.volumes.specs.Stream.{held, read_on}
use Rattle.volumes.proofs.Runs.{run_of}
use Rattle.volumes.proofs.reader.Reader.block.Goals as goal

pub returns-then-last-ge-YEARS : goal.returns-then-last-ge-YEARS
unfolding read_on held
returns-then-last-ge-YEARS c =
    let block = c.args.part.now in
    rw (
      c.in-Right.is,
      T_false (is_run c.in-Right.first (c.in-Right.last + 1) && same block (block_at c.in-Right.first (c.in-Right.last + 1 - c.in-Right.first)))
          (λ t. omega (arith, c.if-last-ge-YEARS.true, (run_of c.in-Right.first (c.in-Right.last + 1) (both_left (is_run c.in-Right.first (c.in-Right.last + 1)) (same block (block_at c.in-Right.first (c.in-Right.last + 1 - c.in-Right.first))) t)).most)),
    )

pub returns-in-Empty : goal.returns-in-Empty
unfolding read_on
returns-in-Empty c = rw (c.in-Empty.is, ← c.u32_at-first.ensures.0) c.held.ensures

pub returns-else-last-ge-YEARS : goal.returns-else-last-ge-YEARS
unfolding read_on
returns-else-last-ge-YEARS c = rw c.in-Right.is c.held-in-Right.ensures

pub returns-in-Wrong : goal.returns-in-Wrong
unfolding read_on
returns-in-Wrong c = rw c.in-Wrong.is
