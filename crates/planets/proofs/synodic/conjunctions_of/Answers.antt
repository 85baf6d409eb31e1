use native.Mathlib.Omega.{arith}
use mathlib.Core.Path.{ap}
use Rattle.planets.specs.declared.synodic.ConjunctionParts.{ConjunctionParts}
use Rattle.units.specs.Xinghe.{P}
use Rattle.planets.proofs.Room.{instant_most, kept_time}
use Rattle.planets.specs.Answers.{conjunctions_of}
use Rattle.planets.proofs.synodic.conjunctions_of.Goals as goal

pub following_of-requires : goal.following_of-requires
following_of-requires c =
    let k = c.args.known.planet in
    let e = c.conjunction_of-standing.ensures in (
      omega (arith, ap (λ (s : ConjunctionParts). s.instant) e, instant_most P k.period k.halved c.args.y),
      omega (arith, ap (λ (s : ConjunctionParts). s.time) e, kept_time P k.period k.halved c.args.y),
    )

pub returns : goal.returns
unfolding conjunctions_of
returns c = cc
