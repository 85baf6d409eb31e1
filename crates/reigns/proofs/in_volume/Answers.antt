use mathlib.Core.Path.{refl}
use Rattle.reigns.specs.Marked.{in_volume}
use Rattle.reigns.proofs.in_volume.Goals as goal

pub returns : goal.returns
unfolding in_volume
returns c = refl
