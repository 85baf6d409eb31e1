use Rattle.mending.proofs.Notes.{SoFar}
use Rattle.mending.proofs.mend_blocks.Given as goal

abbrev pub invariant-loop-i : goal.invariant-loop-i
invariant-loop-i l = SoFar l.initial.volume l.initial.list l.first l.i l.count l.volume l.list
