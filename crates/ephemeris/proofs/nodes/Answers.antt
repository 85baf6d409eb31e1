use native.Mathlib.Omega.{arith}
use Rattle.units.specs.Xinghe.{xinghe}
use Rattle.lunisolar.proofs.Rounds.{lunation_in_round}
use Rattle.units.proofs.Sound.{sound}
use Rattle.ephemeris.proofs.nodes.Goals as goal

pub nodes_of-requires : goal.nodes_of-requires
nodes_of-requires c =
    let a = c.args in
    omega (arith, lunation_in_round xinghe sound a.year a.place c.in_ok-m.m c.in_ok-m.ensures)
