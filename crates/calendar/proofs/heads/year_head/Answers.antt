use native.Mathlib.Omega.{arith}
use mathlib.Core.Path.{◌≡◌, ◌∙◌}
use Rattle.lunisolar.proofs.Laws.{year_found}
use Rattle.units.specs.Xinghe.{xinghe}
use Rattle.calendar.proofs.heads.year_head.Goals as goal

pub head_of-requires : goal.head_of-requires
head_of-requires c = omega (arith, (year_found xinghe c.args.year c.in_ok-y.y c.in_ok-y.ensures).upto)
