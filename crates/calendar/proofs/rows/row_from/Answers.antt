use native.Mathlib.Omega.{arith}
use mathlib.Core.Path.{◌≡◌, ap, ◌∙◌}
use Rattle.lunisolar.specs.declared.Year.{Year}
use Rattle.reckoning.specs.Rule.{year_of}
use Prim.Native.Nat.{ℕ, suc, ◌+◌, ◌-◌, ◌≤◌}
use native.Mathlib.Numerals.{add-one}
use Rattle.reckoning.specs.Rule.{place_of}
use Rattle.reckoning.specs.Means.{new_moon}
use Rattle.reckoning.proofs.Rows.{year_from}
use Rattle.reckoning.proofs.Moons.{moon_high}
use Rattle.lunisolar.specs.Names.{name_of}
use Rattle.lunisolar.proofs.Days.{length_is}
use Rattle.lunisolar.proofs.Rounds.{stands}
use Rattle.mean_calendar.specs.Months.{month_of}
use Rattle.units.specs.Xinghe.{xinghe, means, rule}
use Rattle.units.proofs.Sound.{sound, laws}
use Rattle.moon.specs.NewMoons.{new_moon_of, length_of}
use Rattle.calendar.specs.Rows.{row_of}
use Rattle.calendar.proofs.Round.{row_day, row_end}
use Rattle.calendar.proofs.rows.row_from.Goals as goal

-- where the month stands in its year
whose : (year : Year) (m : ℕ) → year.calendar.constants ≡ xinghe → year.past ≡ year_of rule m →
    (year.before ≤ m) × (rule.before year.past + (m - year.before) ≡ m)
whose year m k e =
    let b : year.before ≡ rule.before year.past = rw k at year.counted in
    let h : year.before ≤ m = rw (b, e) (year_from rule laws m) in
    (h, omega (arith, h, b))

-- the next month's first day
next : (a : goal.After-length_of) → (a.elements_of-elements.result.moon.day + a.length_of.result ≡ new_moon means (suc a.args.lunation))
unfolding row_of month_of new_moon_of length_of
next a =
    let m = a.args.lunation in
    rw (a.length_of.ensures, a.elements_of-elements.ensures, length_is xinghe sound m) (row_end m)

pub overflow_add-next : goal.overflow_add-next
overflow_add-next c = omega (arith, next c, moon_high means sound.moon (suc c.args.lunation), c.requires.1)

pub overflow_sub-lunation : goal.overflow_sub-lunation
overflow_sub-lunation c = (whose c.args.year c.args.lunation c.requires.0 c.requires.2).0

pub name_from-name-requires : goal.name_from-name-requires
unfolding place_of row_of month_of new_moon_of
name_from-name-requires c =
    let m = c.args.lunation in
    let at = (whose c.args.year c.args.lunation c.requires.0 c.requires.2).1 in
    let b : c.args.year.before ≡ rule.before c.args.year.past = rw c.requires.0 at c.args.year.counted in
    rw c.requires.0 (
      c.args.year.low,
      rw (b, c.requires.2) (stands xinghe sound m c.requires.1).place,
      rw (at, c.elements_of-elements.ensures) (row_day m),
      rw (at, add-one m) (next c.before.before),
    )

pub row_named-requires : goal.row_named-requires
row_named-requires c =
    (c.requires.1, rw c.requires.0 at c.name_from-name.ensures ∙ ap (name_of xinghe) (whose c.args.year c.args.lunation c.requires.0 c.requires.2).1, c.elements_of-elements.ensures)
