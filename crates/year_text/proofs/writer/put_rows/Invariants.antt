use lib.ListN.{take}
use Rattle.year_text.specs.Text.{row_lines}
use Rattle.writing.specs.Written.{Wrote}
use Rattle.year_text.proofs.writer.put_rows.Given as goal

abbrev pub invariant-loop-row : goal.invariant-loop-row
invariant-loop-row l = Wrote l.initial.out l.out l.at l.end (row_lines (take l.row-index l.row-items))
