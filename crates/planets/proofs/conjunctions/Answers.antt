use native.Mathlib.Omega.{arith}
use Rattle.lunisolar.proofs.Laws.{year_found}
use Rattle.units.specs.Xinghe.{xinghe}
use Rattle.planets.proofs.conjunctions.Goals as goal

pub conjunctions_in-requires : goal.conjunctions_in-requires
conjunctions_in-requires c = omega (arith, (year_found xinghe c.args.year c.in_ok-y.y c.in_ok-y.ensures).upto)
