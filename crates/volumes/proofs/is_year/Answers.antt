use mathlib.Core.Path.{refl}
use Rattle.reckoning.specs.Search.{between}
use Rattle.volumes.proofs.is_year.Goals as goal

pub returns : goal.returns
unfolding between
returns c = refl
