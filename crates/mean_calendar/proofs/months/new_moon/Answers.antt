use native.Mathlib.Omega.{arith}
use Rattle.lunisolar.proofs.Laws.{product, lunations_bound}
use Rattle.mean_calendar.proofs.months.new_moon.Goals as goal

pub overflow_mul-lunation : goal.overflow_mul-lunation
overflow_mul-lunation c =
    omega (arith, product c.args.lunation c.args.k.constants.month 16777216 16777216 (omega (arith, c.requires, lunations_bound c.args.k.constants c.args.k.sound)) (omega (arith, c.args.k.sound.month)))
