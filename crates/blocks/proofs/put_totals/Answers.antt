use Rattle.blocks.specs.Block.{totals_bytes}
use Rattle.blocks.proofs.put_totals.Goals as goal

pub returns : goal.returns
unfolding totals_bytes
returns c = c.put_three.ensures
