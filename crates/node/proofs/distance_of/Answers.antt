use native.Mathlib.Nat.{zero-add}
use Rattle.node.specs.Eclipses.{distance_of}
use Rattle.node.proofs.distance_of.Goals as goal

pub returns : goal.returns
unfolding distance_of
returns c = rw (c.carry-carried.ensures, zero-add)
