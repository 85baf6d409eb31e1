use Rattle.node.specs.Eclipses.{node_at}
use Rattle.node.proofs.node_at.Goals as goal

pub returns : goal.returns
unfolding node_at
returns c = cc
