use native.Mathlib.Omega.{arith}
use lib.ListN.{take, length-take}
use Rattle.writing.specs.Written.{texts}
use Rattle.writing.proofs.Writings.{wrote_none, and_then, texts_more, texts_length}
use Rattle.year_text.proofs.Lengths.{field_length}
use Rattle.mending_text.specs.Report.{number_line}
use Rattle.mending_text.proofs.put_numbers.Goals as goal

pub loop-number-init : goal.loop-number-init
unfolding texts
loop-number-init c = wrote_none c.args.out.now 0

pub put_field-end-requires : goal.put_field-end-requires
put_field-end-requires c =
    let l = c.loop-number in
    let ns = c.args.numbers.now in
    omega (arith, l.invariant.long, l.invariant.next, texts_length number_line 21 (λ n. field_length n 10) (take l.number-index ns), length-take l.number-index ns, c.requires)

pub loop-number-preserved : goal.loop-number-preserved
loop-number-preserved c =
    let l = c.loop-number in
    rw (texts_more number_line c.args.numbers.now l.number-index 0 (omega arith)) (and_then l.invariant c.put_field-end.ensures)
