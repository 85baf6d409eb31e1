use native.Mathlib.Omega.{arith}
use Rattle.lunisolar.proofs.Laws.{lunations_bound}
use Rattle.lunisolar.proofs.dates.day_for.Goals as goal

pub day_in-requires : goal.day_in-requires
day_in-requires c = (omega (arith, rw c.in_ok-month.was at c.requires, lunations_bound c.args.k.constants c.args.k.sound))
