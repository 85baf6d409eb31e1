use native.Mathlib.Nat.{zero-add}
use Rattle.moon.specs.Phases.{phase_at}
use Rattle.moon.proofs.phases.phase_at.Goals as goal

pub returns : goal.returns
unfolding phase_at
returns c = rw (c.carry-carried.ensures, zero-add)
