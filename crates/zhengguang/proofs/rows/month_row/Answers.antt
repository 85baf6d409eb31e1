use native.Mathlib.Omega.{arith}
use Rattle.zhengguang.proofs.Whose.{month_in_round}
use Rattle.zhengguang.proofs.rows.month_row.Goals as goal

pub with_node-requires : goal.with_node-requires
with_node-requires c =
    let x = c.args in
    omega (arith, month_in_round x.year x.place c.in_ok-mean.mean (rw c.calendar-k.ensures at c.in_ok-mean.ensures))
