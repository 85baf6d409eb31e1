use native.Mathlib.Omega.{arith}
use mathlib.Core.Path.{refl}
use Rattle.reckoning.specs.Rule.{place_of}
use Rattle.reckoning.proofs.Rows.{year_from}
use Rattle.reckoning.proofs.Dates.{month_from, month_to}
use Rattle.reckoning.proofs.Moons.{moon_high}
use Prim.Native.Nat.{suc, ◌≤◌, ◌<◌}
use Rattle.reckoning.specs.Means.{new_moon}
use Rattle.lunisolar.specs.Calendars.{means_of, rule_of}
use Rattle.lunisolar.specs.Names.{name_of}
use Rattle.lunisolar.specs.Dates.{date_in}
use Rattle.lunisolar.proofs.Laws.{laws_of, days_climb, lunations_bound}
use Rattle.lunisolar.proofs.Rounds.{year_in_round}
use Rattle.lunisolar.proofs.dates.date_in.Goals as goal

-- the day lies in the month
from : (a : goal.After-new_moon_day-arg-1) → new_moon (means_of a.args.year.calendar.constants) a.args.m ≤ a.args.day
from a = rw a.requires.2 (month_from (new_moon (means_of a.args.year.calendar.constants)) (days_climb a.args.year.calendar.constants a.args.year.calendar.sound) a.args.day)

upto : (a : goal.After-new_moon_day-arg-1) → a.args.day < new_moon (means_of a.args.year.calendar.constants) (suc a.args.m)
upto a = rw a.requires.2 (month_to (new_moon (means_of a.args.year.calendar.constants)) (days_climb a.args.year.calendar.constants a.args.year.calendar.sound) a.args.day)

pub overflow_add-result : goal.overflow_add-result
overflow_add-result c =
    omega (arith, c.requires.1, year_in_round c.args.year.calendar.constants c.args.year.calendar.sound c.args.m c.requires.0, c.args.year.calendar.sound.years, c.args.year.calendar.sound.first)

pub overflow_sub-result : goal.overflow_sub-result
overflow_sub-result c = rw (c.args.year.counted, c.requires.1) (year_from (rule_of c.args.year.calendar.constants) (laws_of c.args.year.calendar.constants c.args.year.calendar.sound) c.args.m)

pub new_moon_day-requires : goal.new_moon_day-requires
new_moon_day-requires c = (omega (arith, c.requires.0, lunations_bound c.args.year.calendar.constants c.args.year.calendar.sound))

pub overflow_sub-result-2 : goal.overflow_sub-result-2
overflow_sub-result-2 c = rw c.new_moon_day.ensures (from c.before)

pub overflow_add-result-2 : goal.overflow_add-result-2
overflow_add-result-2 c =
    omega (
      arith,
      upto c.before,
      moon_high (means_of c.args.year.calendar.constants) c.args.year.calendar.sound.moon (suc c.args.m),
      c.requires.0,
      lunations_bound c.args.year.calendar.constants c.args.year.calendar.sound,
    )

pub returns : goal.returns
unfolding date_in name_of place_of
returns c = rw (c.new_moon_day.ensures, c.args.year.counted, c.requires.1) refl
