use mathlib.Core.Path.{sym, ◌∙◌}
use native.Mathlib.Omega.{arith}
use Rattle.year_text.proofs.Readings.{sofar_year, sofar_more, sofar_end}
use Rattle.year_text.proofs.reader.year_asked.Goals as goal

pub returns-in-Break : goal.returns-in-Break
returns-in-Break c =
    sofar_year c.args.input.now c.loop-byte.reader c.loop-byte.byte-index c.loop-byte.invariant c.in-Break.year
    (omega arith) (sym c.in-Break.is ∙ c.step.ensures)

pub loop-byte-preserved : goal.loop-byte-preserved
loop-byte-preserved c =
    sofar_more c.args.input.now c.loop-byte.reader c.loop-byte.byte-index c.loop-byte.invariant c.in-Continue.next
    (omega arith) (sym c.in-Continue.is ∙ c.step.ensures)

pub returns : goal.returns
returns c =
    c.year.ensures ∙ sofar_end c.args.input.now c.loop-byte.reader c.loop-byte.byte-index c.loop-byte.invariant (omega arith)
