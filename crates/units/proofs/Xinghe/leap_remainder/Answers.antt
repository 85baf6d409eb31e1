use mathlib.Core.Path.{refl}
use Rattle.reckoning.specs.Chapters.{chapter_rest}
use Rattle.units.proofs.Xinghe.leap_remainder.Goals as goal

pub returns : goal.returns
unfolding chapter_rest
returns c = refl
