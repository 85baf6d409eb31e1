use mathlib.Core.Path.{refl}
use Rattle.zhengguang.specs.Nodes.{nodes_of}
use Rattle.zhengguang.proofs.nodes.nodes_of.Goals as goal

pub returns : goal.returns
unfolding nodes_of
returns c = rw (c.distance_of-full.ensures, c.distance_of-new.ensures) refl
