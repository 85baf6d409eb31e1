-- Each field of each block of a volume stands at its offset, whole.
-- Assumes nothing.
use Prim.Native.Nat.{ℕ, suc, ◌+◌, ◌-◌, ◌≤◌}
use native.Mathlib.Omega.{arith}
use Rattle.totals.specs.Totals.{totals}
use Rattle.totals.proofs.Years.{few_totals}
use Rattle.blocks.proofs.Offsets.{Laid, layout}
use Rattle.volumes.specs.Volume.{Run, block_at, volume_of, block_in}
use Rattle.volumes.proofs.Parts.{block_in_lem}

-- NOTHING IS CUT OFF: the block at an index tells the first year plus the index, its months and the totals since the first year, to the last figure
pub volume_layout : (first last i : ℕ) → Run first last → first + i ≤ last → Laid (first + i) (totals first (suc i)) (block_in (volume_of first last) i)
unfolding block_at
volume_layout first last i r h =
    let t = few_totals first (suc i) r.least (omega (arith, r.most)) in
    rw (block_in_lem first (last + 1 - first) i (omega (arith, h)))
    (layout (first + i) (totals first (suc i)) (omega (arith, r.most)) (omega (arith, t.leaps)) (omega (arith, t.news)) (omega (arith, t.fulls)))
