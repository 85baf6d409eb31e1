-- The rule of days obeys the laws, over any constants with months of 29 to 30 days and middle terms 30 to 31 days apart; what it gives in
-- figures, and where the term after a leap month falls.
-- Assumes nothing.
use mathlib.Core.Path.{◌≡◌, refl, sym, ◌∙◌, ap, fun_ext}
use mathlib.Core.Logic.{⊎_elim}
use mathlib.Core.Bool.{false}
use Prim.Native.Nat.{ℕ, zero, suc, ◌+◌, ◌-◌, ◌*◌, ◌/◌, ◌≤◌, ◌<◌}
use native.Mathlib.Omega.{arith}
use native.Mathlib.Numerals.{add-one}
use native.Mathlib.Nat.{add-zero, add-suc, div-add-mod', mod-lt, mul-pos}
use borrow.Author.Tests.{le-leb, lt-leb, lt-ltb, le-ltb}
use lib.Dec.{T, leb, ltb, leb-suc-suc}
use Rattle.reckoning.specs.Means.{Means, new_moon, term_day, MonthBound, YearBound}
use Rattle.reckoning.specs.Rule.{year_of, leap_place}
use Rattle.reckoning.specs.Dates.{month_of}
use Rattle.reckoning.specs.Figures.{leap_come}
use Rattle.reckoning.specs.Days.{term_in, by_days}
use Rattle.reckoning.proofs.Searches.{between_T, between_low, between_high, le_or_lt}
use Rattle.reckoning.proofs.Climbs.{Climbs, climb_le}
use Rattle.reckoning.proofs.Rates.{rate, rate_ge, rate_lt, rate_zero, rate_gains, rate_within}
use Rattle.reckoning.proofs.Laws.{Laws}
use Rattle.reckoning.proofs.Leaps.{LeapYear, past_leap, past_leap_in}
use Rattle.reckoning.proofs.Rows.{year_is}
use Rattle.reckoning.proofs.Dates.{month_is, month_from, month_to, month_under, month_over}
use Rattle.reckoning.proofs.Moons.{moons_climb, month_short, month_long, month_of_day}

-- a middle term falls 30 or 31 days after the one before
module _ (M : Means) (s : YearBound M) where
  twelve : 0 < 12 * M.year_den
  twelve = omega (arith, s.den)

  first_term : term_day M 0 ≡ 0
  unfolding term_day rate
  first_term = rate_zero M.year_num (12 * M.year_den) twelve

  -- whether a term falls on a day or later, by two products
  pub term_from : (j d : ℕ) → leb (d * (12 * M.year_den)) (j * M.year_num) ≡ leb d (term_day M j)
  unfolding term_day rate
  term_from j d =
      ⊎_elim
      (λ (h : d * (12 * M.year_den) ≤ j * M.year_num).
      le-leb (d * (12 * M.year_den)) (j * M.year_num) h
      ∙ sym (le-leb d (rate M.year_num (12 * M.year_den) j) (rate_ge M.year_num (12 * M.year_den) twelve d j h)))
      (λ (h : j * M.year_num < d * (12 * M.year_den)).
      lt-leb (d * (12 * M.year_den)) (j * M.year_num) h
      ∙ sym (lt-leb d (rate M.year_num (12 * M.year_den) j) (rate_lt M.year_num (12 * M.year_den) twelve d j h)))
      (le_or_lt (d * (12 * M.year_den)) (j * M.year_num))

  term_apart : (j : ℕ) → term_day M j + 30 ≤ term_day M (suc j)
  unfolding term_day rate
  term_apart j = rw (← add-one j) (rate_gains M.year_num (12 * M.year_den) twelve 30 1 j (omega (arith, s.short)))

  term_near : (j : ℕ) → term_day M (suc j) ≤ term_day M j + 31
  unfolding term_day rate
  term_near j = rw (← add-one j) (rate_within M.year_num (12 * M.year_den) twelve 31 1 j (omega (arith, s.long)))

  -- and twelve of them at most 372 days
  year_within : (j : ℕ) → term_day M (j + 12) ≤ term_day M j + 372
  unfolding term_day rate
  year_within j = rate_within M.year_num (12 * M.year_den) twelve 372 12 j (omega (arith, s.long))

module _ (M : Means) (b : MonthBound M) (s : YearBound M) where
  climbs : Climbs (new_moon M)
  climbs = moons_climb M b

  -- n months have at least 29·n days
  months_by : (n m : ℕ) → new_moon M m + 29 * n ≤ new_moon M (m + n)
  months_by zero m = rw (add-zero m) (omega arith)
  months_by (suc n) m = rw (add-suc m n) (omega (arith, months_by n m, month_short M b (m + n)))

  -- the month whose days contain the term's day
  abbrev month : ℕ → ℕ
  month j = month_of (new_moon M) (term_day M j)

  from : (j : ℕ) → new_moon M (month j) ≤ term_day M j
  from j = month_from (new_moon M) climbs (term_day M j)

  upto : (j : ℕ) → term_day M j < new_moon M (suc (month j))
  upto j = month_to (new_moon M) climbs (term_day M j)

  term_held : (j : ℕ) → T (term_in M (month j) j)
  unfolding term_in
  term_held j = between_T (new_moon M (month j)) (term_day M j) (new_moon M (suc (month j))) (from j) (upto j)

  term_only : (m j : ℕ) → T (term_in M m j) → m ≡ month j
  unfolding term_in
  term_only m j t =
      sym
      (month_is (new_moon M) climbs (term_day M j) m
      (between_low (new_moon M m) (term_day M j) (new_moon M (suc m)) t)
      (between_high (new_moon M m) (term_day M j) (new_moon M (suc m)) t))

  term_rise : (j : ℕ) → month j < month (suc j)
  term_rise j =
      month_over (new_moon M) climbs (term_day M (suc j)) (month j)
      (omega (arith, month_long M b (month j), from j, term_apart M s j))

  term_span : (j : ℕ) → month (j + 12) ≤ month j + 13
  term_span j =
      let m : ℕ = month j in
      omega (
        arith,
        month_under (new_moon M) climbs (term_day M (j + 12)) (suc m + 13) (omega (arith, months_by 13 (suc m), upto j, year_within M s j)),
      )

  pub day_laws : Laws (by_days M)
  unfolding by_days
  day_laws =
      record {
        month = month;
        held = term_held;
        only = term_only;
        start = rw (first_term M s) (month_is (new_moon M) climbs 0 0 (omega (arith, climbs.start)) (omega (arith, climbs.start, month_short M b 0)));
        rise = term_rise;
        span = term_span;
        opens = λ y. refl;
      }

  pub day_month : (j : ℕ) → day_laws.month j ≡ month j
  unfolding by_days
  day_month j = sym (day_laws.only (month j) j (term_held j))

  -- the solstice's day tells whether so many months stand before the year
  pub months_over : (y m : ℕ) → new_moon M (suc m) ≤ term_day M (12 * y) → m < (by_days M).before y
  unfolding by_days
  months_over y m h = month_over (new_moon M) climbs (term_day M (12 * y)) m h

  pub months_under : (y m : ℕ) → term_day M (12 * y) < new_moon M m → (by_days M).before y < m
  unfolding by_days
  months_under y m h = month_under (new_moon M) climbs (term_day M (12 * y)) m h

  -- the months before a year, by one division of its solstice's day
  pub day_before : (y : ℕ) → (by_days M).before y ≡ (term_day M (12 * y) * M.month_den + (M.month_den - 1)) / M.month_num
  unfolding by_days
  day_before y = month_of_day M b (term_day M (12 * y))

  -- a month's year is that of the last solstice on its days or before, so one division gives it
  pub year_of_month : (m : ℕ) → year_of (by_days M) m ≡ (new_moon M (suc m) * M.year_den - 1) / M.year_num
  unfolding by_days term_day rate
  year_of_month m =
      let x : ℕ = new_moon M (suc m) * M.year_den - 1 in
      let q : ℕ = x / M.year_num in
      let p : 0 < new_moon M (suc m) * M.year_den = mul-pos (omega (arith, climbs.step m)) s.den in
      let num : 0 < M.year_num = omega (arith, s.den, s.short) in
      let e = div-add-mod' x M.year_num in
      let r = mod-lt x num in
      year_is (by_days M) day_laws m q
      (omega (arith, month_under (new_moon M) climbs (term_day M (12 * q)) (suc m) (rate_lt M.year_num (12 * M.year_den) (twelve M s) (new_moon M (suc m)) (12 * q) (omega arith))))
      (month_over (new_moon M) climbs (term_day M (12 * suc q)) m (rate_ge M.year_num (12 * M.year_den) (twelve M s) (new_moon M (suc m)) (12 * suc q) (omega arith)))

  -- a term lies beyond a month where it falls on the next month's first day or later
  term_beyond : (m j : ℕ) → leb (new_moon M (suc m)) (term_day M j) ≡ ltb m (day_laws.month j)
  term_beyond m j =
      ⊎_elim
      (λ (a : new_moon M (suc m) ≤ term_day M j).
      le-leb (new_moon M (suc m)) (term_day M j) a
      ∙ sym (lt-ltb m (day_laws.month j) (rw (day_month j) (month_over (new_moon M) climbs (term_day M j) m a))))
      (λ (a : term_day M j < new_moon M (suc m)).
      lt-leb (new_moon M (suc m)) (term_day M j) a
      ∙ sym (le-ltb m (day_laws.month j) (rw (day_month j) (omega (arith, month_under (new_moon M) climbs (term_day M j) (suc m) a)))))
      (le_or_lt (new_moon M (suc m)) (term_day M j))

  -- whether the leap month of year y stands at place p or before, by two days: term p falls on the next month's first day or later
  pub leap_come_lem : (y p : ℕ) → p ≤ 12 →
      leb (new_moon M (suc ((by_days M).before y + p))) (term_day M (12 * y + p)) ≡ leap_come (leap_place (by_days M) y) p
  leap_come_lem y p h = term_beyond ((by_days M).before y + p) (12 * y + p) ∙ past_leap (by_days M) day_laws y p h

  -- in a year that has one, at any place
  pub leap_come_in : (y p : ℕ) → 0 < leap_place (by_days M) y →
      leb (new_moon M (suc ((by_days M).before y + p))) (term_day M (12 * y + p)) ≡ leb (leap_place (by_days M) y) p
  leap_come_in y p some = term_beyond ((by_days M).before y + p) (12 * y + p) ∙ past_leap_in (by_days M) day_laws y p some

  -- the term before the solstice falls before the year's first month
  pub before_solstice : (y : ℕ) → 0 < 12 * y → leb (new_moon M ((by_days M).before y)) (term_day M (12 * y - 1)) ≡ false
  before_solstice y h =
      let j : ℕ = 12 * y - 1 in
      let m : ℕ = (by_days M).before y - 1 in
      let e : suc j ≡ 12 * y = omega arith in
      let up = rw e at (day_laws.rise j) in
      let n : (by_days M).before y ≡ suc m = omega (arith, day_laws.opens y, up) in
      rw n (term_beyond m j ∙ le-ltb m (day_laws.month j) (omega (arith, day_laws.opens y, up)))

  -- the same of the month before place p and the term before term p, which at p = 0 are the last of the year before: whether the leap month stands
  -- before p
  pub leap_come_before : (y p : ℕ) → 0 < 12 * y + p → 0 < leap_place (by_days M) y →
      leb (new_moon M ((by_days M).before y + p)) (term_day M (12 * y + p - 1)) ≡ ltb (leap_place (by_days M) y) p
  leap_come_before y zero h some =
      rw (add-zero (12 * y), add-zero ((by_days M).before y))
      (before_solstice y (omega (arith, h)) ∙ sym (le-ltb (leap_place (by_days M) y) 0 (omega arith)))
  leap_come_before y (suc p) h some =
      let e : 12 * y + suc p - 1 ≡ 12 * y + p = omega arith in
      rw (e, add-suc ((by_days M).before y) p, leb-suc-suc (leap_place (by_days M) y) p) (leap_come_in y p some)

  -- THE TERM AFTER A LEAP MONTH FALLS ON THE FIRST OR SECOND DAY OF ITS MONTH, which is the next
  pub term_after : (y l : ℕ) → LeapYear (by_days M) day_laws y l →
      (let m = (by_days M).before y + l in let t = term_day M (12 * y + l) in (new_moon M (suc m) ≤ t) × (t ≤ new_moon M (suc m) + 1))
  term_after y zero c = absurd (omega (arith, c.from))
  term_after y (suc q) c =
      let m : ℕ = (by_days M).before y + suc q in
      let j : ℕ = 12 * y + q in
      let e : 12 * y + suc q ≡ suc j = omega arith in
      let lo : month j < m = omega (arith, day_month j, c.early q (omega arith)) in
      let hi : month (suc j) ≡ suc m = rw (← e) (omega (arith, day_month (12 * y + suc q), c.late (suc q) (omega arith) c.upto)) in
      rw e (
        rw (← hi) (from (suc j)),
        omega (arith, term_near M s j, upto j, month_short M b m, climb_le (new_moon M) climbs (suc (month j)) m lo),
      )

  -- the same rule with the months before a year in figures, so that it computes
  pub figured : by_days M ≡ record { before = λ y. (term_day M (12 * y) * M.month_den + (M.month_den - 1)) / M.month_num; holds = term_in M }
  unfolding by_days
  figured = ap (λ (f : ℕ → ℕ). record { before = f; holds = term_in M }) (fun_ext day_before)
