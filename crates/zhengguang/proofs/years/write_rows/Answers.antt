use native.Mathlib.Omega.{arith}
use mathlib.Core.Path.{◌≡◌, refl, sym, ap, ◌∙◌}
use lib.ListN.{set}
use Rattle.reckoning.proofs.Lists.{filled_to, none_filled, all_filled, one_more, map_from}
use Rattle.mean_year.specs.Years.{places}
use Rattle.zhengguang.specs.Rows.{row_fields}
use Rattle.zhengguang.specs.Years.{row_at}
use Rattle.zhengguang.proofs.years.write_rows.Goals as goal
use Rattle.zhengguang.proofs.years.write_rows.Invariants.{at}

pub loop-i-init : goal.loop-i-init
loop-i-init c = sym (none_filled (at c.args.year) c.args.rows.now)

pub loop-i-preserved : goal.loop-i-preserved
loop-i-preserved c =
    let x = c.args in
    let i = c.loop-i.i in
    let stored : set c.loop-i.rows i c.fields.result ≡ set (filled_to (at x.year) x.rows.now i) i (at x.year i) = rw (c.loop-i.invariant, c.fields.ensures, c.row_at-row.ensures) refl in
    stored ∙ one_more (at x.year) x.rows.now i (omega arith)

pub returns : goal.returns
returns c =
    let x = c.args in
    let f = at x.year in
    let e : c.loop-i.i ≡ places = omega arith in
    c.loop-i.invariant
    ∙ ap (filled_to f x.rows.now) e
    ∙ all_filled f x.rows.now places c.requires.1
    ∙ map_from row_fields (row_at x.year) 0 places
