use lib.ListN.{take}
use Rattle.writing.specs.Written.{Wrote, texts}
use Rattle.mending_text.specs.Report.{number_line}
use Rattle.mending_text.proofs.put_numbers.Given as goal

abbrev pub invariant-loop-number : goal.invariant-loop-number
invariant-loop-number l = Wrote l.initial.out l.out 0 l.end (texts number_line (take l.number-index l.numbers))
