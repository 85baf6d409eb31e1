use native.Mathlib.Omega.{arith}
use mathlib.Core.Path.{◌≡◌, ap, ◌∙◌}
use Rattle.lunisolar.specs.declared.Year.{Year}
use Rattle.reckoning.specs.Rule.{year_of}
use Prim.Native.Nat.{ℕ, suc, ◌+◌, ◌-◌, ◌≤◌}
use native.Mathlib.Numerals.{add-one}
use Rattle.reckoning.specs.Rule.{place_of}
use Rattle.reckoning.specs.Means.{new_moon}
use Rattle.reckoning.proofs.Rows.{year_from}
use Rattle.reckoning.proofs.Moons.{moon_high}
use Rattle.lunisolar.specs.Calendars.{means_of, rule_of}
use Rattle.lunisolar.specs.Names.{name_of}
use Rattle.lunisolar.proofs.Laws.{laws_of, lunations_bound}
use Rattle.lunisolar.proofs.Days.{next_day}
use Rattle.lunisolar.proofs.Rounds.{year_in_round, stands}
use Rattle.mean_calendar.specs.declared.parts.DayShare.{DayShare}
use Rattle.mean_calendar.proofs.months.month_from.Goals as goal

-- where the month stands in its year
whose : (year : Year) (m : ℕ) → year.past ≡ year_of (rule_of year.calendar.constants) m →
    (year.before ≤ m) × ((rule_of year.calendar.constants).before year.past + (m - year.before) ≡ m)
whose year m e =
    let h : year.before ≤ m = rw (year.counted, e) (year_from (rule_of year.calendar.constants) (laws_of year.calendar.constants year.calendar.sound) m) in
    (h, omega (arith, h, year.counted))

-- the next month's first day
next : (a : goal.After-struct_known-1) → (a.new_moon-moon.result.whole + a.month_length-length.result ≡ new_moon (means_of a.args.year.calendar.constants) (suc a.args.lunation))
unfolding new_moon
next a =
    rw (a.month_length-length.ensures, a.new_moon-moon.ensures) (next_day a.args.year.calendar.constants a.args.year.calendar.sound a.args.lunation)

pub month_length-length-requires : goal.month_length-length-requires
month_length-length-requires c = (omega (arith, c.requires.0, lunations_bound c.args.year.calendar.constants c.args.year.calendar.sound))

pub overflow_add-next : goal.overflow_add-next
overflow_add-next c =
    omega (arith, next c, moon_high (means_of c.args.year.calendar.constants) c.args.year.calendar.sound.moon (suc c.args.lunation), c.requires.0, lunations_bound c.args.year.calendar.constants c.args.year.calendar.sound)

pub overflow_sub-lunation : goal.overflow_sub-lunation
overflow_sub-lunation c = (whose c.args.year c.args.lunation c.requires.1).0

pub name_from-name-requires : goal.name_from-name-requires
unfolding place_of new_moon
name_from-name-requires c =
    let k = c.args.year.calendar.constants in
    let s = c.args.year.calendar.sound in
    let m = c.args.lunation in (
      omega (arith, c.requires.1, year_in_round k s m c.requires.0, s.years),
      rw (c.args.year.counted, c.requires.1) (stands k s m c.requires.0).place,
      rw (whose c.args.year c.args.lunation c.requires.1).1 (ap (λ (x : DayShare). x.whole) c.new_moon-moon.ensures),
      rw ((whose c.args.year c.args.lunation c.requires.1).1, add-one m) (next c.before.before),
    )

pub month_by-requires : goal.month_by-requires
month_by-requires c =
    (c.name_from-name.ensures ∙ ap (name_of c.args.year.calendar.constants) (whose c.args.year c.args.lunation c.requires.1).1, c.new_moon-moon.ensures, c.month_length-length.ensures)
