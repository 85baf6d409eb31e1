use native.Mathlib.Omega.{arith}
use mathlib.Core.Path.{◌∙◌, sym}
use Rattle.lunisolar.proofs.Laws.{year_found}
use Rattle.units.specs.Xinghe.{xinghe}
use Rattle.ephemeris.proofs.cut_point.Goals as goal

pub point_in-requires : goal.point_in-requires
point_in-requires c = omega (arith, (year_found xinghe c.args.year c.in-Ok.y (sym c.in-Ok.is ∙ c.year_at.ensures)).upto)
