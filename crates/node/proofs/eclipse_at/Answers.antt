use native.Mathlib.Omega.{arith}
use mathlib.Core.Path.{ap}
use Rattle.node.specs.Eclipses.{distance_of, eclipse_at}
use Rattle.node.specs.declared.Distance.{Distance}
use Rattle.node.proofs.eclipse_at.Goals as goal

pub overflow_sub-result : goal.overflow_sub-result
unfolding distance_of
overflow_sub-result c = omega (arith, ap (λ (d : Distance). d.degrees) c.distance_of-distance.ensures)

pub returns : goal.returns
unfolding eclipse_at
returns c = rw c.distance_of-distance.ensures
