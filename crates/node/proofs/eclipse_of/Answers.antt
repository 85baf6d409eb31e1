use native.Mathlib.Omega.{arith}
use Prim.Native.Nat.{◌-◌, ◌*◌}
use borrow.Author.Tests.{le-leb, lt-leb}
use Rattle.units.specs.Xinghe.{P, M}
use Rattle.node.specs.Eclipses.{eclipse_of, no_eclipse}
use Rattle.node.proofs.eclipse_of.Goals as goal

pub returns-then-halves-le-P : goal.returns-then-halves-le-P
unfolding eclipse_of
returns-then-halves-le-P c = simp (le-leb c.args.halves P (omega (arith, c.if-halves-le-P.true))) c.eclipse_at.ensures

pub returns-then-halves : goal.returns-then-halves
unfolding eclipse_of
returns-then-halves c =
    let h = c.args.halves in
    let o = c.if-halves-le-P.false in
    let t = c.if-halves.true in
    simp (lt-leb h P (omega (arith, o, t)), le-leb (2 * M - P) h t) c.eclipse_at-then-halves.ensures

pub returns : goal.returns
unfolding eclipse_of no_eclipse
returns c =
    let h = c.args.halves in
    simp (lt-leb h P (omega (arith, c.if-halves-le-P.false)), lt-leb (2 * M - P) h c.if-halves.false, c.distance_of-distance.ensures)
