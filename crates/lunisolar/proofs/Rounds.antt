-- The months of a calendar's years: where each stands, how it is named, and how many there are.
-- Assumes nothing.
use Rattle.std.specs.Prelude.{Result, Ok, Err}
use Rattle.refusal.specs.declared.Refusal.{Refusal}
use mathlib.Core.Path.{◌≡◌, refl, sym}
use Prim.Native.Nat.{ℕ, suc, ◌+◌, ◌-◌, ◌≤◌, ◌<◌}
use native.Mathlib.Omega.{arith}
use Rattle.reckoning.specs.Rule.{leap_place, year_of, place_of, month_count}
use Rattle.reckoning.specs.Figures.{leap_at, number_at}
use Rattle.reckoning.specs.Means.{new_moon}
use Rattle.reckoning.specs.Dates.{month_of}
use Rattle.reckoning.proofs.Climbs.{climb_le}
use Rattle.reckoning.proofs.Leaps.{years_climb, year_ends}
use Rattle.reckoning.proofs.Rows.{year_under, month_back, place_in, year_of_lem, place_of_lem, leap_at_lem, number_at_lem}
use Rattle.reckoning.proofs.Dates.{month_under}
use Rattle.lunisolar.specs.Calendars.{means_of, rule_of, Sound, InCalendar, Stands, lunation_at}
use Rattle.lunisolar.specs.Names.{name_of}
use Rattle.lunisolar.specs.declared.Constants.{Constants}
use Rattle.lunisolar.proofs.Laws.{laws_of, days_climb, lunation_found, lunation_at_lem}

module _ (k : Constants) (s : Sound k) where
  -- the name of the month at a place of a year, from the year's leap place
  pub name_at_lem : (y p : ℕ) → p < month_count (rule_of k) y →
      name_of k ((rule_of k).before y + p) ≡ record { year = y + k.first; place = p; number = number_at (leap_place (rule_of k) y) p; leap = leap_at (leap_place (rule_of k) y) p }
  unfolding name_of
  name_at_lem y p h =
      let L = laws_of k s in
      rw (year_of_lem (rule_of k) L y p h, place_of_lem (rule_of k) L y p h, number_at_lem (rule_of k) L y p h, leap_at_lem (rule_of k) L y p h) refl

  -- a month that stands at a place of a year of the calendar is one of its months, and its year and place are those
  module _ (y p m : ℕ) (t : Stands k y p m) where
    pub in_round_lem : m < k.lunations
    in_round_lem =
        omega (
          arith,
          t.place,
          t.month,
          year_ends (rule_of k) (laws_of k s) y,
          s.lunations,
          climb_le (rule_of k).before (years_climb (rule_of k) (laws_of k s)) (suc y) k.years t.year,
        )

    pub stands_year : year_of (rule_of k) m ≡ y
    stands_year = rw t.month (year_of_lem (rule_of k) (laws_of k s) y p t.place)

    pub stands_place : place_of (rule_of k) m ≡ p
    stands_place = rw t.month (place_of_lem (rule_of k) (laws_of k s) y p t.place)

  -- and each month of the calendar stands at its own
  module _ (m : ℕ) (h : m < k.lunations) where
    pub year_in_round : year_of (rule_of k) m < k.years
    year_in_round = year_under (rule_of k) (laws_of k s) m k.years (rw s.lunations h)

    pub stands : Stands k (year_of (rule_of k) m) (place_of (rule_of k) m) m
    stands = record { year = year_in_round; place = place_in (rule_of k) (laws_of k s) m; month = sym (month_back (rule_of k) (laws_of k s) m) }

    -- MONTH TO YEAR AND PLACE AND BACK
    pub month_to_place : lunation_at k (name_of k m).year (name_of k m).place ≡ Ok m
    unfolding name_of
    month_to_place =
        let L = laws_of k s in
        rw (lunation_at_lem k (year_of (rule_of k) m) (place_of (rule_of k) m) year_in_round (place_in (rule_of k) L m), month_back (rule_of k) L m)

  -- a month that is answered stands there
  pub found : (n p m : ℕ) → Ok m ≡ lunation_at k n p → (k.first ≤ n) × Stands k (n - k.first) p m
  found n p m e =
      let f = lunation_found k n p m e in
      let q : f.year ≡ n - k.first = omega (arith, f.found.written) in
      (omega (arith, f.found.written), rw (← q) (record { year = f.found.upto; place = f.place; month = f.month }))

  pub lunation_in_round : (n p m : ℕ) → Ok m ≡ lunation_at k n p → m < k.lunations
  lunation_in_round n p m e = in_round_lem (n - k.first) p m (found n p m e).1

  -- so what is answered for a year and a place is in the calendar
  pub in_calendar : (n p : ℕ) → InCalendar k (lunation_at k n p)
  in_calendar n p = go (lunation_at k n p) refl
    where
      go : (a : Result ℕ Refusal) → a ≡ lunation_at k n p → InCalendar k a
      go (Ok m) e = lunation_in_round n p m e
      go (Err x) e = tt

  -- YEAR AND PLACE TO MONTH AND BACK
  pub place_to_month : (n p m : ℕ) → Ok m ≡ lunation_at k n p → ((name_of k m).year ≡ n) × ((name_of k m).place ≡ p)
  unfolding name_of
  place_to_month n p m e =
      let f = found n p m e in
      (omega (arith, stands_year (n - k.first) p m f.1, f.0), stands_place (n - k.first) p m f.1)

  pub month_in_round : (d : ℕ) → d < k.days → month_of (new_moon (means_of k)) d < k.lunations
  month_in_round d h = month_under (new_moon (means_of k)) (days_climb k s) d k.lunations (rw s.days h)
