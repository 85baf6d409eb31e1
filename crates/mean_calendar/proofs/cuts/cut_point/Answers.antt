use native.Mathlib.Omega.{arith}
use Rattle.lunisolar.proofs.Laws.{year_found}
use Rattle.mean_calendar.proofs.cuts.cut_point.Goals as goal

pub point_in-requires : goal.point_in-requires
point_in-requires c =
    omega (arith, (year_found c.args.k.constants c.args.year _ c.in_ok-year_at.ensures).upto, c.args.k.sound.years)
