use mathlib.Core.Path.{refl}
use Rattle.planets.specs.Conjunctions.{takes_half}
use Rattle.planets.proofs.synodic.takes_half.Goals as goal

pub returns : goal.returns
unfolding takes_half
returns c = refl
