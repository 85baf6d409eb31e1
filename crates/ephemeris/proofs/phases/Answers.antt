use native.Mathlib.Omega.{arith}
use Rattle.units.specs.Xinghe.{xinghe}
use Rattle.lunisolar.proofs.Rounds.{lunation_in_round}
use Rattle.units.proofs.Sound.{sound}
use Rattle.ephemeris.proofs.phases.Goals as goal

pub phases_of-requires : goal.phases_of-requires
phases_of-requires c =
    let a = c.args in
    omega (arith, lunation_in_round xinghe sound a.year a.place c.in_ok-m.m c.in_ok-m.ensures)
