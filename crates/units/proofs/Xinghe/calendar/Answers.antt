use Rattle.units.proofs.Sound.{sound}
use Rattle.units.proofs.Xinghe.calendar.Goals as goal

pub invariant_of-result : goal.invariant_of-result
invariant_of-result c = rw c.constants.ensures (record { sound = sound })
