use Rattle.std.proofs.lemmas.Result.{err_from_is_err_and}
use native.Mathlib.Omega.{arith}
use mathlib.Core.Path.{◌∙◌, sym, ap}
use Rattle.std.specs.Prelude.{Ok}
use Rattle.lunisolar.proofs.Rounds.{found}
use Rattle.mean_calendar.proofs.Found.{first_head, no_first}
use Rattle.mean_calendar.proofs.heads.head_for.Goals as goal

pub overflow_sub-year : goal.overflow_sub-year
overflow_sub-year c =
    (found c.args.k.constants c.args.k.sound c.args.year 0 c.in_ok-before.before (sym c.in_ok-before.was ∙ c.requires)).0

pub invariant_of-head_of : goal.invariant_of-head_of
invariant_of-head_of c =
    let t = (found c.args.k.constants c.args.k.sound c.args.year 0 c.in_ok-before.before (sym c.in_ok-before.was ∙ c.requires)).1 in
    record { low = omega (arith, t.year, c.args.k.sound.years); counted = omega (arith, t.month) }

pub returns-in_err-before : goal.returns-in_err-before
returns-in_err-before c =
    let p = err_from_is_err_and c.from_residual.result c.from_residual.ensures.1 in
    rw (p.1, p.2) (no_first c.args.k.constants c.args.k.sound c.args.year c.in_err-before.field-0.0 (sym c.in_err-before.was ∙ c.requires))

pub returns : goal.returns
returns c =
    ap Ok c.head_of.ensures ∙ first_head c.args.k.constants c.args.k.sound c.args.year c.in_ok-before.before (sym c.in_ok-before.was ∙ c.requires)
