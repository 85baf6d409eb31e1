-- The solstice and the middle terms of any calendar: among the points of a cut, and among the months.
-- Assumes nothing.
use Rattle.std.specs.Prelude.{Ok}
use mathlib.Core.Path.{◌≡◌, refl, sym}
use mathlib.Core.Logic.{◌↔◌}
use Prim.Native.Nat.{ℕ, suc, ◌+◌, ◌-◌, ◌*◌, ◌/◌, ◌≤◌, ◌<◌}
use native.Mathlib.Omega.{arith}
use native.Mathlib.Nat.{div-add-mod', mod-lt, mul-div_cancel, mul-mod_left}
use lib.Dec.{T}
use Rattle.reckoning.specs.Means.{new_moon, term_day}
use Rattle.reckoning.specs.Days.{by_days, term_in}
use Rattle.reckoning.specs.Rule.{is_leap}
use Rattle.reckoning.proofs.Rates.{rate, rate_is}
use Rattle.reckoning.proofs.Searches.{between_low, between_high}
use Rattle.reckoning.proofs.Leaps as leaps
use Rattle.lunisolar.specs.Calendars.{Sound, means_of, rule_of}
use Rattle.lunisolar.specs.declared.Constants.{Constants}
use Rattle.lunisolar.proofs.Laws.{laws_of, solstice_day}
use Rattle.lunisolar.proofs.Days.{next_day, next_rest}
use Rattle.mean_calendar.specs.Heads.{head_of, year_head}
use Rattle.mean_calendar.specs.Months.{month_of}
use Rattle.mean_calendar.specs.Points.{point_of}
use Rattle.mean_calendar.specs.declared.MeanHead.{MeanHead}
use Rattle.mean_calendar.proofs.Found.{head_found}

module _ (k : Constants) (s : Sound k) where
  -- THE FIRST POINT OF ANY CUT IS THE SOLSTICE, nothing over
  pub first_point : (y c : ℕ) → 0 < c → ((point_of k y c 0).day ≡ (head_of k y).solstice) × ((point_of k y c 0).remainder ≡ (head_of k y).remainder) × ((point_of k y c 0).rest ≡ 0)
  unfolding point_of head_of
  first_point y c h =
      let e : (y * c + 0) * k.year ≡ y * k.year * c = omega arith in
      rw (e, mul-div_cancel (y * k.year) {n = c} h, mul-mod_left (y * k.year) c) (refl, refl, refl)

  -- THE MIDDLE TERMS ARE THE EVEN POINTS OF THE YEAR CUT IN 24, by the day
  pub middle_terms : (y j : ℕ) → term_day (means_of k) (12 * y + j) ≡ (point_of k y 24 (2 * j)).day
  unfolding point_of term_day rate
  middle_terms y j =
      let t : ℕ = (y * 24 + 2 * j) * k.year in
      let parts = div-add-mod' t 24 in
      let days = div-add-mod' (t / 24) k.degree in
      let rest = mod-lt (t / 24) s.sun.den in
      rate_is k.year (12 * k.degree) (omega (arith, s.sun.den)) (12 * y + j) (t / 24 / k.degree)
      (omega (arith, parts, days))
      (omega (arith, parts, days, rest))

  -- THE MONTHLY ADDITION: the next month begins as many days later as the month has, and its small remainder is a month's parts more and those days' less
  pub next_month : (m : ℕ) →
      ((month_of k (suc m)).day ≡ (month_of k m).day + (month_of k m).length)
      × ((month_of k (suc m)).remainder.parts + (month_of k m).length * k.day ≡ (month_of k m).remainder.parts + k.month)
  unfolding month_of
  next_month m = (sym (next_day k s m), next_rest k s m)

  -- A LEAP MONTH HOLDS NO MIDDLE TERM, of any year
  pub no_middle_term : (y m j : ℕ) → (rule_of k).before y ≤ m → m < (rule_of k).before (suc y) → T (is_leap (rule_of k) y m) → ¬ (T ((rule_of k).holds m j))
  no_middle_term = leaps.leap_holds_none (rule_of k) (laws_of k s)

  module _ (n : ℕ) (head : MeanHead) (e : Ok head ≡ year_head k n) where
    abbrev y : ℕ
    y = n - k.first

    is_before : head.before ≡ (rule_of k).before y
    unfolding head_of
    is_before = rw (head_found k n head e).is_head

    is_solstice : head.solstice ≡ term_day (means_of k) (12 * y)
    unfolding head_of
    is_solstice = rw (head_found k n head e).is_head (solstice_day k s y)

    -- A YEAR BEGINS WITH THE MONTH THAT HOLDS ITS SOLSTICE, which is its first middle term, and with no other
    pub solstice_month : (m : ℕ) → T ((rule_of k).holds m (12 * y)) ↔ (m ≡ head.before)
    solstice_month m = rw is_before (leaps.solstice_month (rule_of k) (laws_of k s) m y)

    -- in the head's and the month's own figures: the solstice's day is one of that month's days
    pub solstice_within : ((month_of k head.before).day ≤ head.solstice) × (head.solstice < (month_of k head.before).day + (month_of k head.before).length)
    unfolding by_days term_in month_of
    solstice_within =
        let b : ℕ = (rule_of k).before y in
        let t = (leaps.solstice_month (rule_of k) (laws_of k s) b y).1 refl in
        let lo = between_low (new_moon (means_of k) b) (term_day (means_of k) (12 * y)) (new_moon (means_of k) (suc b)) t in
        let hi = between_high (new_moon (means_of k) b) (term_day (means_of k) (12 * y)) (new_moon (means_of k) (suc b)) t in
        rw (is_before, is_solstice) (omega (arith, lo), omega (arith, hi, next_day k s b))
