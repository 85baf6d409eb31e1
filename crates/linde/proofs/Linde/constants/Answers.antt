use mathlib.Core.Path.{refl}
use Rattle.linde.proofs.Sound.{sound}
use Rattle.linde.proofs.Linde.constants.Goals as goal

pub returns : goal.returns
returns c = (refl, sound)
