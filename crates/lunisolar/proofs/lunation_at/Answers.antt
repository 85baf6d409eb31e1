use native.Mathlib.Omega.{arith}
use Rattle.lunisolar.proofs.Laws.{year_found}
use Rattle.lunisolar.proofs.lunation_at.Goals as goal

pub begun-requires : goal.begun-requires
begun-requires c =
    omega (arith, (year_found c.args.k.constants c.args.year c.in_ok-y.y c.in_ok-y.ensures).upto, c.args.k.sound.years)
