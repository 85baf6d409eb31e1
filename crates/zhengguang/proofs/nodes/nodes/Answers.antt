use native.Mathlib.Omega.{arith}
use Rattle.lunisolar.proofs.Rounds.{lunation_in_round}
use Rattle.zhengguang.specs.Zhengguang.{zhengguang}
use Rattle.zhengguang.proofs.Sound.{sound}
use Rattle.zhengguang.proofs.nodes.nodes.Goals as goal

pub nodes_of-requires : goal.nodes_of-requires
nodes_of-requires c =
    let x = c.args in
    omega (arith, lunation_in_round zhengguang sound x.year x.place c.in_ok-m.m (rw c.calendar.ensures at c.in_ok-m.ensures))
