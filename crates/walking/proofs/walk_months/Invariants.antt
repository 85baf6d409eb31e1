use Rattle.walking.proofs.Program.{SoFar}
use Rattle.walking.proofs.walk_months.Given as goal

abbrev pub invariant-loop-count : goal.invariant-loop-count
invariant-loop-count l = SoFar l.size l.from l.counts l.month l.answered l.count-index
