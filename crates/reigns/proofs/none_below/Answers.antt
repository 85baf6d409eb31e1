use mathlib.Core.Path.{refl}
use Rattle.reigns.specs.Marked.{none_below}
use Rattle.reigns.proofs.none_below.Goals as goal

pub returns : goal.returns
unfolding none_below
returns c = refl
