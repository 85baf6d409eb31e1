use native.Mathlib.Omega.{arith}
use mathlib.Core.Path.{◌∙◌, sym}
use Prim.Native.Nat.{◌-◌}
use Rattle.lunisolar.proofs.Rounds.{found, in_round_lem, stands_year}
use Rattle.mean_calendar.proofs.months.month_for.Goals as goal

pub overflow_sub-begun : goal.overflow_sub-begun
overflow_sub-begun c =
    let x = c.args in
    (found x.k.constants x.k.sound x.year x.place c.in_ok-m.m (sym c.in_ok-m.was ∙ c.requires)).0

pub overflow_sub-begun-2 : goal.overflow_sub-begun-2
overflow_sub-begun-2 c =
    let x = c.args in
    omega (arith, (found x.k.constants x.k.sound x.year x.place c.in_ok-m.m (sym c.in_ok-m.was ∙ c.requires)).1.month)

pub invariant_of-begun : goal.invariant_of-begun
invariant_of-begun c =
    let x = c.args in
    let t = (found x.k.constants x.k.sound x.year x.place c.in_ok-m.m (sym c.in_ok-m.was ∙ c.requires)).1 in
    record { low = omega (arith, t.year, x.k.sound.years); counted = omega (arith, t.month) }

pub month_from-requires : goal.month_from-requires
month_from-requires c =
    let x = c.args in
    let t = (found x.k.constants x.k.sound x.year x.place c.in_ok-m.m (sym c.in_ok-m.was ∙ c.requires)).1 in
    (in_round_lem x.k.constants x.k.sound (x.year - x.k.constants.first) x.place c.in_ok-m.m t, sym (stands_year x.k.constants x.k.sound (x.year - x.k.constants.first) x.place c.in_ok-m.m t))
