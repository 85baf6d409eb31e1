use mathlib.Core.Path.{refl}
use Rattle.volumes.specs.Reader.{whole_blocks}
use Rattle.volumes.proofs.whole_blocks.Goals as goal

pub returns : goal.returns
unfolding whole_blocks
returns c = refl
