use mathlib.Core.Path.{refl, sym}
use Rattle.mean_calendar.proofs.Points.{past, on_cut, no_cut}
use Rattle.mean_calendar.proofs.cuts.point_in.Goals as goal

pub returns-then-cut-index : goal.returns-then-cut-index
returns-then-cut-index c = let a = c.args in sym (past a.k.constants a.y a.cut a.index c.if-cut-index.true)

pub returns-then-cut-eq24 : goal.returns-then-cut-eq24
returns-then-cut-eq24 c =
    let a = c.args in
    rw (c.if-cut-eq24.true, c.point_of.ensures) (sym (on_cut a.k.constants a.y 24 a.index refl (rw c.if-cut-eq24.true at c.if-cut-index.false)))

pub returns-then-cut-eq60 : goal.returns-then-cut-eq60
returns-then-cut-eq60 c =
    let a = c.args in
    rw (c.if-cut-eq60.true, c.point_of-then-cut-eq60.ensures) (sym (on_cut a.k.constants a.y 60 a.index refl (rw c.if-cut-eq60.true at c.if-cut-index.false)))

pub returns-then-cut-eq72 : goal.returns-then-cut-eq72
returns-then-cut-eq72 c =
    let a = c.args in
    rw (c.if-cut-eq72.true, c.point_of-then-cut-eq72.ensures) (sym (on_cut a.k.constants a.y 72 a.index refl (rw c.if-cut-eq72.true at c.if-cut-index.false)))

pub returns : goal.returns
returns c =
    let a = c.args in
    sym (no_cut a.k.constants a.y a.cut a.index c.if-cut-eq24.false c.if-cut-eq60.false c.if-cut-eq72.false)
