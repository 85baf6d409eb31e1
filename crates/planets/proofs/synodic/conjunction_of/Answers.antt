use native.Mathlib.Omega.{arith}
use Prim.Native.Nat.{◌-◌, ◌*◌, ◌%◌}
use Rattle.units.specs.Xinghe.{P}
use Rattle.planets.specs.Conjunctions.{rest, remaining, time, kind, conjunction_of}
use Rattle.planets.proofs.Room.{less_most}
use Rattle.planets.proofs.synodic.conjunction_of.Goals as goal

pub overflow_add-result : goal.overflow_add-result
overflow_add-result c =
    let k = c.args.known.planet in
    omega (arith, c.less_half-time.ensures, less_most k.period k.halved (k.period - c.args.y * P % k.period), c.args.known.sound.room)

pub returns : goal.returns
unfolding conjunction_of time kind remaining rest
returns c = rw (c.less_half-time.ensures, c.kind_from.ensures)
