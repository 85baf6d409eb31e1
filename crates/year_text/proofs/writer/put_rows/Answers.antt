use native.Mathlib.Omega.{arith}
use lib.ListN.{take, length-take}
use Rattle.calendar.specs.Answers.{zero_row}
use Rattle.year_text.specs.Text.{month_line}
use Rattle.writing.specs.Written.{texts}
use Rattle.writing.proofs.Writings.{wrote_none, and_then, texts_more}
use Rattle.year_text.proofs.Lengths.{lines_length}
use Rattle.year_text.proofs.writer.put_rows.Goals as goal

pub loop-row-init : goal.loop-row-init
unfolding texts
loop-row-init c = wrote_none c.args.out.now c.args.at

pub put_row-end-requires : goal.put_row-end-requires
put_row-end-requires c =
    let l = c.loop-row in
    let first = take c.args.count c.args.rows in
    omega (arith, l.invariant.long, l.invariant.next, lines_length (take l.row-index first), length-take l.row-index first, length-take c.args.count c.args.rows, c.requires.0, c.requires.1)

pub loop-row-preserved : goal.loop-row-preserved
loop-row-preserved c =
    let l = c.loop-row in
    let first = take c.args.count c.args.rows in
    let more = texts_more month_line first l.row-index zero_row (omega (arith, length-take c.args.count c.args.rows)) in
    rw more (and_then l.invariant c.put_row-end.ensures)
