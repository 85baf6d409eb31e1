use native.Mathlib.Omega.{arith}
use mathlib.Core.Path.{◌≡◌, refl}
use mathlib.Core.Logic.{⊎_elim}
use Prim.Native.Nat.{ℕ, ◌+◌, ◌-◌, ◌*◌, ◌/◌, ◌≤◌, ◌<◌}
use Rattle.reckoning.specs.Rule.{leap_place}
use Rattle.reckoning.specs.Figures.{LeapNear}
use Rattle.reckoning.proofs.Searches.{le_or_lt}
use Rattle.reckoning.proofs.Leaps.{Common, Long, two_kinds}
use Rattle.reckoning.proofs.Chapters.{chapter_division}
use Rattle.reckoning.proofs.Near.{solstice_before, month_before, near_leap}
use Rattle.units.specs.Xinghe.{P, means, rule, chapter_months, chapter_years, chapter_leaps}
use Rattle.units.specs.Chapter.{by_chapter, leap_remainder}
use Rattle.units.proofs.Sound.{sound, laws, chapter}
use Rattle.units.proofs.chapter.near_leap.Goals as goal

-- from the solstice to the next new moon, in parts of a month, of which it has as many as the chapter years
abbrev gap : ℕ → ℕ
gap y = (rule.before y + 1) * chapter_years - y * chapter_months

-- more than none, and less than a month and a day
gap_low : (y : ℕ) → y * chapter_months < (rule.before y + 1) * chapter_years
gap_low y = omega (arith, solstice_before means sound.moon sound.sun y)

gap_high : (y : ℕ) → (rule.before y + 1) * chapter_years < y * chapter_months + 582
gap_high y = omega (arith, month_before means sound.moon sound.sun y)

-- any calendar's parts are so many of these, so that its place is had from them
is_near : (y : ℕ) → LeapNear (leap_place rule y) ((12 * gap y - 1) / chapter_leaps)
is_near y =
    near_leap means sound.moon sound.sun y (30 * P * gap y) (30 * P * chapter_leaps)
    (omega (arith, gap_low y))
    refl
    sound.gain
    ((12 * gap y - 1) / chapter_leaps)
    (omega (arith, gap_low y))
    (omega arith)

upto : (y : ℕ) → leap_place rule y ≤ 12
upto y =
    ⊎_elim
    (λ (c : Common rule laws y). omega (arith, c.place))
    (λ (c : Long rule laws y). c.leap.upto)
    (two_kinds rule laws y)

-- where the months before the year are the chapter's, the leap remainder tells the gap; where they are one more, the place would be past them all
by_rest : (y : ℕ) → LeapNear (leap_place rule y) ((12 * (chapter_years - leap_remainder y) - 1) / chapter_leaps)
by_rest y some =
    let d = chapter_division chapter_months chapter_years chapter.pos y in
    ⊎_elim
    (λ (h : rule.before y ≤ by_chapter y).
    let e : chapter_years - leap_remainder y ≡ gap y = omega (arith, h, d.0, d.1, gap_low y, gap_high y) in
    rw e (is_near y some))
    (λ (h : by_chapter y < rule.before y).
    let far : 563 ≤ gap y = omega (arith, h, d.0, d.1) in
    absurd (omega (arith, far, (is_near y some).0, upto y)))
    (le_or_lt (rule.before y) (by_chapter y))

-- the leap remainder is below the chapter's years
low : (a : goal.After-leap_remainder) → a.leap_remainder.result < chapter_years
low a = rw a.leap_remainder.ensures (chapter_division chapter_months chapter_years chapter.pos a.args.y).1

pub overflow_sub-result : goal.overflow_sub-result
overflow_sub-result c = omega (arith, low c)

pub overflow_sub-result-2 : goal.overflow_sub-result-2
overflow_sub-result-2 c = omega (arith, low c)

pub returns : goal.returns
returns c =
    let y = c.args.y in
    let d = chapter_division chapter_months chapter_years chapter.pos y in
    rw c.leap_remainder.ensures (omega arith, omega (arith, d.0), by_rest y)
