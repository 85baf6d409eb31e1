use Rattle.planets.specs.Conjunctions.{following}
use Rattle.planets.proofs.synodic.following_of.Goals as goal

pub returns : goal.returns
unfolding following
returns c = cc
