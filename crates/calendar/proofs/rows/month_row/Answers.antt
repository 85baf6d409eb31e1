use native.Mathlib.Omega.{arith}
use mathlib.Core.Path.{sym}
use Prim.Native.Nat.{◌-◌}
use Rattle.units.specs.Xinghe.{xinghe}
use Rattle.lunisolar.proofs.Rounds.{found, in_round_lem, stands_year}
use Rattle.units.proofs.Sound.{sound}
use Rattle.calendar.proofs.rows.month_row.Goals as goal

pub overflow_sub-begun : goal.overflow_sub-begun
overflow_sub-begun c = let x = c.args in (found xinghe sound x.year x.place c.in_ok-m.m c.in_ok-m.ensures).0

pub overflow_sub-begun-2 : goal.overflow_sub-begun-2
overflow_sub-begun-2 c =
    let x = c.args in
    omega (arith, (found xinghe sound x.year x.place c.in_ok-m.m c.in_ok-m.ensures).1.month)

pub invariant_of-begun : goal.invariant_of-begun
invariant_of-begun c =
    let x = c.args in
    let s = (found xinghe sound x.year x.place c.in_ok-m.m c.in_ok-m.ensures).1 in
    rw c.calendar.ensures (record { low = omega (arith, s.year); counted = omega (arith, s.month) })

pub row_from-requires : goal.row_from-requires
row_from-requires c =
    let x = c.args in
    let m = c.in_ok-m.m in
    let s = (found xinghe sound x.year x.place m c.in_ok-m.ensures).1 in
    (c.calendar.ensures, in_round_lem xinghe sound (x.year - 1) x.place m s, sym (stands_year xinghe sound (x.year - 1) x.place m s))
