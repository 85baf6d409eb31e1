use native.Mathlib.Nat.{zero-add}
use Rattle.reckoning.specs.Means.{new_moon, new_moon_rest}
use Rattle.moon.specs.NewMoons.{new_moon_of}
use Rattle.moon.proofs.new_moon.Goals as goal

pub returns : goal.returns
unfolding new_moon_of new_moon new_moon_rest
returns c = rw (c.carry-carried.ensures, zero-add)
