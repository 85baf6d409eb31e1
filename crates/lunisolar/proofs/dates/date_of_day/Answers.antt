use native.Mathlib.Omega.{arith}
use mathlib.Core.Path.{refl}
use Prim.Native.Nat.{◌<◌}
use borrow.Author.Tests.{lt-ltb, le-ltb}
use Rattle.reckoning.proofs.Moons.{moon_high}
use Rattle.lunisolar.specs.Calendars.{means_of}
use Rattle.lunisolar.specs.Dates.{date_of_day}
use Rattle.lunisolar.proofs.Laws.{lunations_bound}
use Rattle.lunisolar.proofs.Rounds.{month_in_round, year_in_round}
use Rattle.lunisolar.proofs.dates.date_of_day.Goals as goal

-- the month is one of the calendar's
in_round_lem : (a : goal.After-month_of_day-m) → a.month_of_day-m.result < a.args.k.constants.lunations
in_round_lem a =
    rw a.month_of_day-m.ensures (month_in_round a.args.k.constants a.args.k.sound a.args.number a.if-k-number.false)

pub returns-then-k-number : goal.returns-then-k-number
unfolding date_of_day
returns-then-k-number c = rw (le-ltb c.args.number c.args.k.constants.days c.if-k-number.true) refl

pub month_of_day-m-requires : goal.month_of_day-m-requires
month_of_day-m-requires c = (omega (arith, c.if-k-number.false, c.args.k.sound.days, moon_high (means_of c.args.k.constants) c.args.k.sound.moon c.args.k.constants.lunations, lunations_bound c.args.k.constants c.args.k.sound))

pub year_of-y-requires : goal.year_of-y-requires
year_of-y-requires c = (omega (arith, in_round_lem c, lunations_bound c.args.k.constants c.args.k.sound))

pub begun-requires : goal.begun-requires
begun-requires c = (omega (arith, c.year_of-y.ensures, year_in_round c.args.k.constants c.args.k.sound c.month_of_day-m.result (in_round_lem c.before), c.args.k.sound.years))

pub date_in-requires : goal.date_in-requires
date_in-requires c =
    rw (c.begun.ensures.0, c.begun.ensures.1) (in_round_lem c.before.before, c.year_of-y.ensures, c.month_of_day-m.ensures)

pub returns : goal.returns
unfolding date_of_day
returns c =
    rw (lt-ltb c.args.number c.args.k.constants.days c.if-k-number.false, c.date_in.ensures, c.begun.ensures.0, c.month_of_day-m.ensures) refl
