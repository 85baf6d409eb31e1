use native.Mathlib.Nat.{zero-add}
use Rattle.sun.specs.Solstices.{solstice_of}
use Rattle.sun.proofs.winter_solstice.Goals as goal

pub returns : goal.returns
unfolding solstice_of
returns c = rw (c.carry-carried.ensures, zero-add)
