-- The figures by which a place next to the leap month's is found: room for them, and what they give.
-- Assumes nothing.
use mathlib.Core.Path.{◌≡◌, refl}
use Prim.Native.Nat.{ℕ, zero, suc, ◌+◌, ◌-◌, ◌*◌, ◌/◌, ◌%◌, ◌≤◌, ◌<◌}
use native.Mathlib.Omega.{arith}
use native.Mathlib.Nat.{div-add-mod', mod-lt, mul-pos, mul-le-mul_left, lt_of_mul-lt-mul_right, le-div_iff_mul-le}
use Rattle.reckoning.specs.Rule.{leap_place}
use Rattle.reckoning.specs.Figures.{LeapNear}
use Rattle.reckoning.proofs.Near.{solstice_before, month_before, near_leap}
use Rattle.lunisolar.specs.Calendars.{means_of, rule_of, Sound}
use Rattle.lunisolar.specs.declared.Constants.{Constants}
use Rattle.lunisolar.proofs.Laws.{product, before_bound}

difference : (a b c : ℕ) → a < b + c → 0 < c → a - b < c
difference a b c h i = omega (arith, h, i)

module _ (k : Constants) (s : Sound k) where
  -- what terms fall behind by in a place, in parts of a twelfth of a day's
  abbrev pub gain : ℕ
  gain = k.year * k.day - 12 * k.degree * k.month

  -- a day's parts
  parts : 0 < k.degree * k.day
  parts = mul-pos s.sun.den s.moon.den

  behind : 12 * k.degree * k.month ≤ k.year * k.day
  behind = omega (arith, s.gain.gain)

  pub gain_from : 6 * (k.degree * k.day) ≤ gain
  gain_from = omega (arith, s.gain.gain, behind)

  pub gain_some : 0 < gain
  gain_some = omega (arith, gain_from, parts)

  short : 29 * (k.degree * k.day) ≤ k.degree * k.month
  short = omega (arith, mul-le-mul_left k.degree s.moon.short)

  long : k.degree * k.month ≤ 30 * (k.degree * k.day)
  long = omega (arith, mul-le-mul_left k.degree s.moon.long)

  year_long : k.year * k.day ≤ 372 * (k.degree * k.day)
  year_long = omega (arith, product k.year k.day (372 * k.degree) k.day s.sun.long (omega arith))

  module _ (y : ℕ) (h : y < 1048576) (b : ℕ) (e : b ≡ (rule_of k).before y) where
    pub before_room : b + 1 ≤ 16777216
    before_room = omega (arith, h, e, before_bound k s y)

    pub month_room : (b + 1) * k.month ≤ 16777216 * 16777216
    month_room = product (b + 1) k.month 16777216 16777216 before_room (omega (arith, s.month))

    pub gap_room : (b + 1) * k.month * k.degree ≤ 16777216 * 16777216 * 32768
    gap_room = product ((b + 1) * k.month) k.degree (16777216 * 16777216) 32768 month_room (omega (arith, s.degree))

    pub year_room : y * k.year ≤ 1048576 * 16777216
    year_room = product y k.year 1048576 16777216 (omega (arith, h)) (omega (arith, s.year))

    pub solstice_room : y * k.year * k.day ≤ 1048576 * 16777216 * 262144
    solstice_room = product (y * k.year) k.day (1048576 * 16777216) 262144 year_room (omega (arith, s.divisor))

    -- from the solstice to the next new moon
    abbrev pub gap : ℕ
    gap = (b + 1) * k.month * k.degree - y * k.year * k.day

    pub solstice_first : y * k.year * k.day < (b + 1) * k.month * k.degree
    solstice_first = rw e (omega (arith, solstice_before (means_of k) s.moon s.sun y))

    -- less than a month and a day
    gap_high : gap < k.degree * k.month + k.degree * k.day
    gap_high =
        let m : b * k.month * k.degree < y * k.year * k.day + k.degree * k.day = rw e (month_before (means_of k) s.moon s.sun y) in
        difference ((b + 1) * k.month * k.degree) (y * k.year * k.day) (k.degree * k.month + k.degree * k.day) (omega (arith, m)) (omega (arith, parts))

    pub gap_bound : 12 * gap < 62 * gain
    gap_bound = omega (arith, gap_high, long, gain_from)

    abbrev near : ℕ
    near = (12 * gap - 1) / gain

    division : near * gain + (12 * gap - 1) % gain ≡ 12 * gap - 1
    division = div-add-mod' (12 * gap - 1) gain

    pub near_room : near < 62
    near_room = lt_of_mul-lt-mul_right gain (omega (arith, division, gap_bound))

    pub near_is : LeapNear (leap_place (rule_of k) y) near
    near_is =
        near_leap (means_of k) s.moon s.sun y gap gain
        (rw (← e) (omega (arith, solstice_first)))
        (omega (arith, behind))
        s.gain
        near
        (omega (arith, division, solstice_first))
        (omega (arith, division, mod-lt (12 * gap - 1) gain_some))

  -- in the first year it is past the first place
  first_near : (y : ℕ) (h : y < 1048576) (b : ℕ) (e : b ≡ (rule_of k).before y) → y ≡ 0 → 0 < (12 * gap y h b e - 1) / gain
  first_near y h b e z =
      let none : b ≡ 0 = omega (arith, e, z, before_bound k s y) in
      let d : gap y h b e ≡ k.degree * k.month = rw (none, z) (omega arith) in
      (le-div_iff_mul-le gain_some).1 (rw d (omega (arith, short, year_long, parts)))

  pub near_some : (y : ℕ) (h : y < 1048576) (b : ℕ) (e : b ≡ (rule_of k).before y) → 0 < 12 * y + (12 * gap y h b e - 1) / gain
  near_some zero h b e = omega (arith, first_near zero h b e refl)
  near_some (suc y) h b e = omega arith
