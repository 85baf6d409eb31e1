use mathlib.Core.Path.{refl}
use Rattle.zhengguang.specs.Nodes.{distance_of}
use Rattle.zhengguang.proofs.nodes.distance_of.Goals as goal

pub returns : goal.returns
unfolding distance_of
returns c = rw (c.over_day-share.ensures, c.calendar.ensures) refl
