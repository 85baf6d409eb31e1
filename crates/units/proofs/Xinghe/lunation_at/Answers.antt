use native.Mathlib.Omega.{arith}
use mathlib.Core.Path.{◌∙◌, sym}
use Rattle.lunisolar.proofs.Laws.{year_found}
use Rattle.units.specs.Xinghe.{xinghe}
use Rattle.units.proofs.Xinghe.lunation_at.Goals as goal

pub begun-requires : goal.begun-requires
begun-requires c = omega (arith, (year_found xinghe c.args.year c.in-Ok.y (sym c.in-Ok.is ∙ c.year_at.ensures)).upto)
