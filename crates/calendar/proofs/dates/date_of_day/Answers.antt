use native.Mathlib.Omega.{arith}
use mathlib.Core.Path.{refl}
use Prim.Native.Nat.{◌<◌}
use borrow.Author.Tests.{lt-ltb, le-ltb}
use Rattle.lunisolar.specs.Dates.{date_of_day}
use Rattle.lunisolar.proofs.Rounds.{month_in_round, year_in_round}
use Rattle.units.specs.Xinghe.{xinghe, round_months, round_days}
use Rattle.units.proofs.Sound.{sound}
use Rattle.calendar.proofs.dates.date_of_day.Goals as goal

-- the month is one of the round's
in_round_lem : (a : goal.After-month_of_day-m) → a.month_of_day-m.result < round_months
in_round_lem a = rw a.month_of_day-m.ensures (month_in_round xinghe sound a.args.number a.if-number-ge-DAYS.false)

pub returns-then-number-ge-DAYS : goal.returns-then-number-ge-DAYS
unfolding date_of_day
returns-then-number-ge-DAYS c = rw (le-ltb c.args.number round_days c.if-number-ge-DAYS.true) refl

pub year_of-y-requires : goal.year_of-y-requires
year_of-y-requires c = omega (arith, in_round_lem c)

pub begun-requires : goal.begun-requires
begun-requires c = omega (arith, c.year_of-y.ensures, year_in_round xinghe sound c.month_of_day-m.result (in_round_lem c.before))

pub date_in-requires : goal.date_in-requires
date_in-requires c =
    rw (c.begun.ensures.0, c.begun.ensures.1) (in_round_lem c.before.before, c.year_of-y.ensures, c.month_of_day-m.ensures)

pub returns : goal.returns
unfolding date_of_day
returns c =
    rw (lt-ltb c.args.number round_days c.if-number-ge-DAYS.false, c.date_in.ensures, c.begun.ensures.0, c.month_of_day-m.ensures) refl
