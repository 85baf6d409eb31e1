use Rattle.moon.specs.Phases.{phases_of}
use Rattle.moon.proofs.phases.phases_of.Goals as goal

pub returns : goal.returns
unfolding phases_of
returns c = cc
