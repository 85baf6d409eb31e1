use Rattle.blocks.specs.Block.{totals_in}
use Rattle.blocks.proofs.totals_in.Goals as goal

pub returns : goal.returns
unfolding totals_in
returns c = rw (c.u32_at.ensures.0, c.u32_at-2.ensures.0, c.u32_at-3.ensures.0)
