use Rattle.year_text.proofs.Readings.{Sofar}
use Rattle.year_text.proofs.reader.year_asked.Given as goal

abbrev pub invariant-loop-byte : goal.invariant-loop-byte
invariant-loop-byte l = Sofar l.input l.reader l.byte-index
