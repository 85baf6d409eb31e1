use native.Mathlib.Nat.{zero-add}
use Rattle.sun.specs.Points.{point_of}
use Rattle.sun.proofs.point_of.Goals as goal

pub returns : goal.returns
unfolding point_of
returns c = rw (c.carry-carried.ensures, zero-add)
