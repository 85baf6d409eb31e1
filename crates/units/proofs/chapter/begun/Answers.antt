use Rattle.units.proofs.chapter.begun.Goals as goal

pub invariant_of-result : goal.invariant_of-result
invariant_of-result c = rw c.calendar.ensures (record { low = c.requires; counted = c.months_before.ensures })
