use Rattle.lunisolar.proofs.Years.{room}
use native.Mathlib.Omega.{arith}
use mathlib.Core.Path.{◌≡◌, ◌∙◌}
use mathlib.Core.Logic.{⊎_elim}
use Prim.Native.Nat.{ℕ, zero, suc, ◌+◌, ◌-◌, ◌*◌, ◌≤◌, ◌<◌}
use native.Mathlib.Nat.{add-zero}
use mir.Val.{bool_byte}
use lib.Dec.{leb}
use Rattle.reckoning.specs.Rule.{leap_place}
use Rattle.reckoning.specs.Means.{new_moon, term_day}
use Rattle.reckoning.proofs.Moons.{moon_high}
use Rattle.reckoning.proofs.Days.{leap_come_in, leap_come_before, before_solstice}
use Rattle.reckoning.proofs.Leaps.{year_low, year_ends, two_kinds, Common, Long}
use Rattle.lunisolar.specs.Calendars.{Sound, means_of, rule_of}
use Rattle.lunisolar.specs.declared.Constants.{Constants}
use Rattle.lunisolar.proofs.Laws.{laws_of}
use Rattle.lunisolar.proofs.Days.{next_day}
use Rattle.lunisolar.proofs.Figures.{one_at_most, place_is}
use Rattle.lunisolar.proofs.rule.leap_beside.Goals as goal

-- at place 0 no look back finds a leap month
none_at_0 : (k : Constants) → Sound k → (y near : ℕ) → 0 < 12 * y + near →
    bool_byte (leb (new_moon (means_of k) ((rule_of k).before y + near)) (term_day (means_of k) (12 * y + near - 1))) ≤ near
none_at_0 k s y zero h =
    rw (add-zero (12 * y), add-zero ((rule_of k).before y), before_solstice (means_of k) s.moon s.sun y (omega (arith, h))) (omega arith)
none_at_0 k s y (suc p) h =
    omega (arith, one_at_most (leb (new_moon (means_of k) ((rule_of k).before y + suc p)) (term_day (means_of k) (12 * y + suc p - 1))))

-- the next month's first day
next : (a : goal.After-month_length) → (a.new_moon_day-first.result + a.month_length.result ≡ new_moon (means_of a.args.year.calendar.constants) (suc ((rule_of a.args.year.calendar.constants).before a.args.year.past + a.args.near)))
next a =
    rw (a.month_length.ensures, a.new_moon_day-first.ensures, a.args.year.counted)
    (next_day a.args.year.calendar.constants a.args.year.calendar.sound ((rule_of a.args.year.calendar.constants).before a.args.year.past + a.args.near))

-- which is within what `term_from` asks of a day
next_high : (a : goal.After-month_length) → a.new_moon_day-first.result + a.month_length.result ≤ 1073741824
next_high a =
    let m : ℕ = (rule_of a.args.year.calendar.constants).before a.args.year.past + a.args.near in
    omega (arith, next a, moon_high (means_of a.args.year.calendar.constants) a.args.year.calendar.sound.moon (suc m), room a.args.year, a.args.year.low, a.args.year.counted, a.requires.0)

-- the looks together take off at most one more than the place
looks : (a : goal.After-term_from-had) → bool_byte a.term_from-come.result + bool_byte a.term_from-had.result ≤ a.args.near + 1
looks a =
    let had : bool_byte a.term_from-had.result ≤ a.args.near =
    rw (a.term_from-had.ensures, a.new_moon_day-first.ensures, a.args.year.counted)
    (none_at_0 a.args.year.calendar.constants a.args.year.calendar.sound a.args.year.past a.args.near a.requires.1) in
    omega (arith, one_at_most a.term_from-come.result, had)

-- of a year of thirteen, the place that was found
found : (a : goal.After-term_from-had) → (let l = leap_place (rule_of a.args.year.calendar.constants) a.args.year.past in Long (rule_of a.args.year.calendar.constants) (laws_of a.args.year.calendar.constants a.args.year.calendar.sound) a.args.year.past → a.args.near + 1 ≡ l + bool_byte a.term_from-come.result + bool_byte a.term_from-had.result)
found a c =
    let M = means_of a.args.year.calendar.constants in
    let some = c.leap.from in
    rw (
      a.term_from-come.ensures,
      next a.before.before.before,
      a.term_from-had.ensures,
      a.new_moon_day-first.ensures,
      a.args.year.counted,
      leap_come_in M a.args.year.calendar.sound.moon a.args.year.calendar.sound.sun a.args.year.past a.args.near some,
      leap_come_before M a.args.year.calendar.sound.moon a.args.year.calendar.sound.sun a.args.year.past a.args.near a.requires.1 some,
    )
    (place_is (leap_place (rule_of a.args.year.calendar.constants) a.args.year.past) a.args.near some a.requires.2)

pub overflow_add-m : goal.overflow_add-m
overflow_add-m c = omega (arith, room c.args.year)

pub new_moon_day-first-requires : goal.new_moon_day-first-requires
new_moon_day-first-requires c = (omega (arith, c.args.year.low, c.requires.0, room c.args.year))

pub month_length-requires : goal.month_length-requires
month_length-requires c = (omega (arith, c.args.year.low, c.requires.0, room c.args.year))

pub overflow_add-first : goal.overflow_add-first
overflow_add-first c = omega (arith, next_high c)

pub term_from-come-requires : goal.term_from-come-requires
term_from-come-requires c = (omega (arith, c.args.year.low, c.requires.0), next_high c)

pub term_from-had-requires : goal.term_from-had-requires
term_from-had-requires c = (omega (arith, c.args.year.low, c.requires.0), omega (arith, next_high c.before.before))

pub overflow_sub-result-2 : goal.overflow_sub-result-2
overflow_sub-result-2 c = omega (arith, looks c)

pub overflow_sub-result-3 : goal.overflow_sub-result-3
overflow_sub-result-3 c =
    let R = rule_of c.args.year.calendar.constants in
    let L = laws_of c.args.year.calendar.constants c.args.year.calendar.sound in
    omega (arith, c.month_count.ensures, year_low R L c.args.year.past, year_ends R L c.args.year.past)

pub overflow_mul-result : goal.overflow_mul-result
overflow_mul-result c =
    let R = rule_of c.args.year.calendar.constants in
    let L = laws_of c.args.year.calendar.constants c.args.year.calendar.sound in
    ⊎_elim
    (λ (d : Common R L c.args.year.past). rw (c.month_count.ensures ∙ d.count) (omega (arith, c.requires.0)))
    (λ (d : Long R L c.args.year.past). rw (c.month_count.ensures ∙ d.count) (omega (arith, c.requires.0)))
    (two_kinds R L c.args.year.past)

pub returns : goal.returns
returns c =
    let R = rule_of c.args.year.calendar.constants in
    let L = laws_of c.args.year.calendar.constants c.args.year.calendar.sound in
    ⊎_elim
    (λ (d : Common R L c.args.year.past). rw (c.month_count.ensures ∙ d.count) (omega (arith, d.place)))
    (λ (d : Long R L c.args.year.past). rw (c.month_count.ensures ∙ d.count) (omega (arith, found c.before d)))
    (two_kinds R L c.args.year.past)
