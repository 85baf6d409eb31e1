use native.Mathlib.Omega.{arith}
use Rattle.lunisolar.proofs.Laws.{lunations_bound}
use Rattle.lunisolar.proofs.Rounds.{year_in_round}
use Rattle.mean_calendar.proofs.months.month_of.Goals as goal

pub year_of-y-requires : goal.year_of-y-requires
year_of-y-requires c = (omega (arith, c.requires, lunations_bound c.args.k.constants c.args.k.sound))

pub begun-requires : goal.begun-requires
begun-requires c = (omega (arith, c.year_of-y.ensures, year_in_round c.args.k.constants c.args.k.sound c.args.lunation c.requires, c.args.k.sound.years))

pub month_from-requires : goal.month_from-requires
month_from-requires c = rw (c.begun.ensures.0, c.begun.ensures.1) (c.requires, c.year_of-y.ensures)

pub returns : goal.returns
returns c = rw c.begun.ensures.0 at c.month_from.ensures
