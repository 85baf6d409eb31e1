use mathlib.Core.Path.{refl}
use mathlib.Core.List.{flatten}
use Rattle.reckoning.specs.Search.{list_from}
use Rattle.names.specs.Ganzhi.{ganzhi}
use Rattle.names.proofs.ganzhi.names.Goals as goal

pub returns : goal.returns
unfolding ganzhi list_from flatten
returns c = refl
