use Rattle.mending.specs.Mended.{mendable}
use Rattle.mending.proofs.is_mendable.Goals as goal

pub returns : goal.returns
unfolding mendable
returns c = rw c.whole_blocks.ensures
