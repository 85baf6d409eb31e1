use mathlib.Core.Path.{refl}
use Rattle.node.specs.Nodes.{nodes_of}
use Rattle.node.proofs.nodes_of.Goals as goal

pub returns : goal.returns
unfolding nodes_of
returns c =
    rw (c.node_at-full.ensures, c.side-side.ensures, c.node_at-new.ensures, c.passage_of-passage.ensures) refl
