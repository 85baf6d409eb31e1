use native.Mathlib.Omega.{arith}
use mathlib.Core.Path.{◌≡◌, refl, sym, ap, ◌∙◌}
use lib.ListN.{set}
use Rattle.reckoning.proofs.Lists.{filled_to, none_filled, all_filled, one_more, map_from}
use Rattle.mean_calendar.specs.Months.{month_fields}
use Rattle.mean_year.specs.Years.{places, month_at}
use Rattle.mean_year.proofs.write_months.Goals as goal
use Rattle.mean_year.proofs.write_months.Invariants.{at}

pub loop-i-init : goal.loop-i-init
loop-i-init c = sym (none_filled (at c.args.k.constants c.args.year) c.args.rows.now)

pub loop-i-preserved : goal.loop-i-preserved
loop-i-preserved c =
    let x = c.args in
    let i = c.loop-i.i in
    let stored : set c.loop-i.rows i c.fields.result ≡ set (filled_to (at x.k.constants x.year) x.rows.now i) i (at x.k.constants x.year i) = rw (c.loop-i.invariant, c.fields.ensures, c.month_at-month.ensures) refl in
    stored ∙ one_more (at x.k.constants x.year) x.rows.now i (omega arith)

pub returns : goal.returns
returns c =
    let x = c.args in
    let f = at x.k.constants x.year in
    let e : c.loop-i.i ≡ places = omega arith in
    c.loop-i.invariant
    ∙ ap (filled_to f x.rows.now) e
    ∙ all_filled f x.rows.now places c.requires.1
    ∙ map_from month_fields (month_at x.k.constants x.year) 0 places
