use native.Mathlib.Omega.{arith}
use mathlib.Core.Path.{◌≡◌}
use mathlib.Core.Bool.{Bool, ◌&&◌, not}
use Prim.Native.Nat.{ℕ, zero, suc, ◌+◌, ◌-◌, ◌*◌, ◌≤◌}
use native.Mathlib.Numerals.{add-one}
use lib.Dec.{leb, ltb}
use borrow.Author.Tests.{lt-ltb}
use mir.Val.{bool_byte}
use Rattle.reckoning.specs.Rule.{leap_place}
use Rattle.reckoning.specs.Means.{new_moon, term_day}
use Rattle.reckoning.specs.Figures.{leap_at}
use Rattle.reckoning.proofs.Moons.{moon_high}
use Rattle.reckoning.proofs.Days.{leap_come_lem}
use Rattle.lunisolar.specs.Calendars.{Sound, means_of, rule_of}
use Rattle.lunisolar.specs.declared.Constants.{Constants}
use Rattle.lunisolar.proofs.Laws.{count_bound, before_bound}
use Rattle.lunisolar.proofs.Figures.{never_first, comes_at}
use Rattle.lunisolar.proofs.Rounds.{name_at_lem}
use Rattle.lunisolar.proofs.naming.name_from.Goals as goal

-- the leap mark by two terms: that of the place comes on the next month's first day or later, and the one before came before the month
module _ (k : Constants) (s : Sound k) (y : ℕ) where
  abbrev from : ℕ → ℕ → Bool
  from p m = leb (new_moon (means_of k) m) (term_day (means_of k) (12 * y + p))

  mark : (p : ℕ) → p ≤ 12 → from p (suc ((rule_of k).before y + p)) && not (from (p - bool_byte (ltb 0 p)) ((rule_of k).before y + p)) ≡ leap_at (leap_place (rule_of k) y) p
  mark zero h = rw (leap_come_lem (means_of k) s.moon s.sun y 0 h) (never_first _ _)
  mark (suc p) h =
      let e : suc p - bool_byte (ltb 0 (suc p)) ≡ p = rw (lt-ltb 0 (suc p) (omega arith)) (omega arith) in
      let n : (rule_of k).before y + suc p ≡ suc ((rule_of k).before y + p) = omega arith in
      rw (leap_come_lem (means_of k) s.moon s.sun y (suc p) h, e, n, leap_come_lem (means_of k) s.moon s.sun y p (omega (arith, h)))
      (comes_at _ p)

place_in : (a : goal.Start) → a.args.place ≤ 12
place_in a = omega (arith, a.requires.1, count_bound a.args.k.constants a.args.k.sound a.args.y)

-- the days of the month and of the next
high : (a : goal.Start) (m : ℕ) → m ≤ (rule_of a.args.k.constants).before a.args.y + 13 → new_moon (means_of a.args.k.constants) m ≤ 1073741824
high a m h = omega (arith, h, a.requires.0, moon_high (means_of a.args.k.constants) a.args.k.sound.moon m, before_bound a.args.k.constants a.args.k.sound a.args.y)

pub overflow_add-y : goal.overflow_add-y
overflow_add-y c = omega (arith, place_in c, c.requires.0)

pub term_from-come-requires : goal.term_from-come-requires
term_from-come-requires c = (omega (arith, place_in c, c.requires.0), rw c.requires.3 (high c _ (omega (arith, place_in c))))

pub overflow_add-y-2 : goal.overflow_add-y-2
overflow_add-y-2 c = omega (arith, place_in c.before, c.requires.0)

pub term_from-had-requires : goal.term_from-had-requires
term_from-had-requires c = (omega (arith, place_in c.before, c.requires.0), rw c.requires.2 (high c.before _ (omega (arith, place_in c.before))))

pub number_by-requires : goal.number_by-requires
number_by-requires c = omega (arith, place_in c.before.before.before)

pub returns : goal.returns
returns c =
    let k = c.args.k.constants in
    let s = c.args.k.sound in
    let y = c.args.y in
    let p = c.args.place in
    rw (
      c.number_by.ensures,
      c.term_from-had.ensures,
      c.term_from-come.ensures,
      c.requires.3,
      c.requires.2,
      add-one ((rule_of k).before y + p),
      name_at_lem k s y p c.requires.1,
      mark k s y p (place_in c.before.before.before.before),
      leap_come_lem (means_of k) s.moon s.sun y p (place_in c.before.before.before.before),
    )
