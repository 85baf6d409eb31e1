-- The leap months of the Xinghe, by the days of its middle terms (02 §4), and what its chapter gives of them.
-- Assumes nothing.
use Rattle.std.specs.Prelude.{Ok}
use mathlib.Core.Path.{◌≡◌, refl}
use mathlib.Core.Logic.{◌⊎◌, ⊎_elim, ◌↔◌}
use Prim.Native.Nat.{ℕ, suc, ◌+◌, ◌-◌, ◌*◌, ◌≤◌, ◌<◌}
use native.Mathlib.Omega.{arith}
use lib.Dec.{T, leb}
use Rattle.reckoning.specs.Search.{pick, between, any}
use Rattle.reckoning.specs.Means.{new_moon, term_day}
use Rattle.reckoning.specs.Days.{by_days, term_in}
use Rattle.reckoning.specs.Rule.{is_leap}
use Rattle.reckoning.proofs.Searches.{between_low, between_high}
use Rattle.reckoning.proofs.Leaps as leaps
use Rattle.reckoning.proofs.Leaps.{one_term, leap_holds_none, Common, Long, two_kinds}
use Rattle.reckoning.proofs.Chapters.{chapter_division}
use Rattle.reckoning.proofs.Days.{day_laws, term_after}
use Rattle.mean_calendar.specs.Months.{month_of}
use Rattle.sun.specs.Solstices.{solstice_of}
use Rattle.sun.specs.Points.{point_of}
use Rattle.moon.specs.NewMoons.{new_moon_of}
use Rattle.units.specs.Xinghe.{means, rule, chapter_months, chapter_years}
use Rattle.units.specs.Chapter.{by_chapter}
use Rattle.units.proofs.Sound.{sound, laws, chapter}
use Rattle.units.proofs.Table.{by_chapter_or_more}
use Rattle.calendar.specs.Heads.{head_of, year_head}
use Rattle.calendar.specs.Rows.{row_of}
use Rattle.calendar.specs.declared.YearHead.{YearHead}
use Rattle.calendar.proofs.Round.{head_found, head_leap, row_day, row_end}

-- the solstice's day is that of the year's first middle term
solstice_day : (y : ℕ) → (solstice_of y).day ≡ term_day means (12 * y)
unfolding solstice_of term_day
solstice_day y = omega arith

-- THE MIDDLE TERMS ARE THE EVEN POINTS OF THE YEAR CUT IN 24, by the day
pub middle_terms : (y k : ℕ) → term_day means (12 * y + k) ≡ (point_of y 24 (2 * k)).day
unfolding point_of term_day
middle_terms y k = omega arith

module _ (n : ℕ) (head : YearHead) (e : Ok head ≡ year_head n) where
  abbrev y : ℕ
  y = n - 1

  is_before : head.before ≡ rule.before y
  unfolding head_of
  is_before = rw (head_found n head e).is_head

  is_solstice : head.solstice.day ≡ term_day means (12 * y)
  unfolding head_of
  is_solstice = rw (head_found n head e).is_head (solstice_day y)

  -- A HEAD BY THE PRINTED CHAPTER, as a reader checks it: the division's count and leap remainder, and the months before the year, one more
  -- than that count exactly where the month after it begins on the solstice's day
  pub head_chapter : (let t = by_chapter y in
      (t * chapter_years + head.remainder ≡ y * chapter_months) × (head.remainder < chapter_years)
      × (head.before ≡ pick (leb (row_of (suc t)).day head.solstice.day) (suc t) t))
  unfolding head_of
  head_chapter =
      let d = chapter_division chapter_months chapter_years chapter.pos y in
      let h = (head_found n head e).is_head in
      (rw h d.0, rw h d.1, rw (is_before, is_solstice, row_day (suc (by_chapter y))) (by_chapter_or_more y))

  -- A YEAR BEGINS WITH THE MONTH THAT HOLDS ITS SOLSTICE, which is its first middle term, and with no other
  pub solstice_month : (m : ℕ) → T (rule.holds m (12 * y)) ↔ (m ≡ head.before)
  solstice_month m = rw is_before (leaps.solstice_month rule laws m y)

  -- in the head's and the row's own figures: the solstice's day is one of that month's days
  pub solstice_within : ((row_of head.before).day ≤ head.solstice.day) × (head.solstice.day < (row_of head.before).day + (row_of head.before).length)
  unfolding by_days term_in
  solstice_within =
      let b : ℕ = rule.before y in
      let t = (leaps.solstice_month rule laws b y).1 refl in
      let lo = between_low (new_moon means b) (term_day means (12 * y)) (new_moon means (suc b)) t in
      let hi = between_high (new_moon means b) (term_day means (12 * y)) (new_moon means (suc b)) t in
      rw (is_before, is_solstice) (omega (arith, row_day b, lo), omega (arith, row_end b, hi))

  -- THE TERM AFTER THE LEAP MONTH FALLS ON THE FIRST OR SECOND DAY OF THE NEXT MONTH, as the treatise looks for it
  pub term_after_leap : 0 < head.leap →
      (let m = head.before + head.leap in let t = term_day means (12 * y + head.leap) in ((row_of (suc m)).day ≤ t) × (t ≤ (row_of (suc m)).day + 1))
  term_after_leap some =
      let l = head_leap n head e in
      let L = day_laws means sound.moon sound.sun in
      rw (row_day (suc (head.before + head.leap)), is_before, l)
      (⊎_elim
      (λ (c : Common rule L y). absurd (omega (arith, some, l, c.place)))
      (λ (c : Long rule L y). term_after means sound.moon sound.sun y _ c.leap)
      (two_kinds rule L y))

-- but not the converse: the term of year 1's second month falls on that month's second day, and the month before it is no leap month
pub not_the_converse : T (rule.holds 1 1) × (term_day means 1 ≡ (row_of 1).day + 1) × ¬ (T (is_leap rule 0 0))
unfolding by_days term_in new_moon term_day between is_leap any row_of new_moon_of month_of
not_the_converse = (tt, refl, λ t. t)

-- each month holds at most one middle term
pub one_middle_term : (m i j : ℕ) → T (rule.holds m i) → T (rule.holds m j) → i ≡ j
one_middle_term = one_term rule laws

-- a year has 12 months, each with a middle term, or 13, of which exactly one holds none
pub twelve_or_thirteen : (y : ℕ) → Common rule laws y ⊎ Long rule laws y
twelve_or_thirteen = two_kinds rule laws

-- and that one, the leap month, holds no middle term of any year
pub no_middle_term : (y m j : ℕ) → rule.before y ≤ m → m < rule.before (suc y) → T (is_leap rule y m) → ¬ (T (rule.holds m j))
no_middle_term = leap_holds_none rule laws
