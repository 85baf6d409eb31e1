-- Of any calendar with sound constants: the laws of its leap rule, the bounds of its figures, and what its answers say.
-- Assumes nothing.
use Rattle.std.specs.Prelude.{Result, Ok, Err}
use mathlib.Core.Path.{◌≡◌, refl, sym}
use mathlib.Core.Logic.{⊎_elim}
use Prim.Native.Nat.{ℕ, zero, suc, ◌+◌, ◌-◌, ◌*◌, ◌/◌, ◌≤◌, ◌<◌}
use native.Mathlib.Omega.{arith}
use native.Mathlib.Nat.{mul-le-mul, div-add-mod', mod-lt, div-lt_iff_lt-mul}
use lib.Dec.{leb, ltb, ltb→lt}
use borrow.Author.Tests.{lt-ltb, le-leb}
use mir.Val.{bool_byte}
use Rattle.reckoning.specs.Search.{between}
use Rattle.reckoning.specs.Rule.{month_count, leap_place}
use Rattle.reckoning.specs.Figures.{leap_come}
use Rattle.reckoning.specs.Means.{new_moon, term_day}
use Rattle.reckoning.proofs.Searches.{chosen, inside, between_low, between_high}
use Rattle.reckoning.proofs.Rates.{rate, rate_is}
use Rattle.reckoning.proofs.Climbs.{Climbs}
use Rattle.reckoning.proofs.Laws.{Laws}
use Rattle.reckoning.proofs.Days.{day_laws, leap_come_lem}
use Rattle.reckoning.proofs.Moons.{moons_climb}
use Rattle.reckoning.proofs.Leaps.{year_high, year_ends, two_kinds, Common, Long}
use Rattle.refusal.specs.declared.Refusal.{Refusal}
use Rattle.lunisolar.specs.Calendars.{means_of, rule_of, Sound, year_at, lunation_for, lunation_at}
use Rattle.lunisolar.specs.declared.Constants.{Constants}

-- a product of two bounded numbers
pub product : (a b c d : ℕ) → a ≤ c → b ≤ d → a * b ≤ c * d
product a b c d h i = mul-le-mul h i

pub laws_of : (k : Constants) → Sound k → Laws (rule_of k)
laws_of k s = day_laws (means_of k) s.moon s.sun

module _ (k : Constants) (s : Sound k) where
  -- the new moons climb, so each day lies in one month
  pub days_climb : Climbs (new_moon (means_of k))
  days_climb = moons_climb (means_of k) s.moon

  -- the solstice's day is that of the year's first middle term
  pub solstice_day : (y : ℕ) → y * k.year / k.degree ≡ term_day (means_of k) (12 * y)
  unfolding term_day rate
  solstice_day y =
      sym
      (rate_is k.year (12 * k.degree) (omega (arith, s.sun.den)) (12 * y) (y * k.year / k.degree)
      (omega (arith, div-add-mod' (y * k.year) k.degree))
      (omega (arith, div-add-mod' (y * k.year) k.degree, mod-lt (y * k.year) s.sun.den)))

  pub solstice_high : (y : ℕ) → y ≤ 1048576 → y * k.year / k.degree ≤ 1073741824
  solstice_high y h =
      let room : y * k.year < 1073741824 * k.degree = omega (arith, product y k.year 1048576 (372 * k.degree) h s.sun.long, s.sun.den) in
      omega (arith, (div-lt_iff_lt-mul {y = 1073741824} s.sun.den).1 room)

  -- 12 to 13 months a year
  pub before_bound : (y : ℕ) → (rule_of k).before y ≤ 13 * y
  before_bound zero = omega (arith, (laws_of k s).opens 0, (laws_of k s).start)
  before_bound (suc y) = omega (arith, before_bound y, year_high (rule_of k) (laws_of k s) y)

  pub count_bound : (y : ℕ) → month_count (rule_of k) y ≤ 13
  count_bound y = omega (arith, year_ends (rule_of k) (laws_of k s) y, year_high (rule_of k) (laws_of k s) y)

  -- a year has a thirteenth month where the next solstice falls on the first day of the month after the thirteenth or later
  pub count_by : (y : ℕ) → 12 + bool_byte (leb (new_moon (means_of k) ((rule_of k).before y + 13)) (term_day (means_of k) (12 * y + 12))) ≡ month_count (rule_of k) y
  unfolding leap_come
  count_by y =
      let l : ℕ = leap_place (rule_of k) y in
      let e : (rule_of k).before y + 13 ≡ suc ((rule_of k).before y + 12) = omega arith in
      rw (e, leap_come_lem (means_of k) s.moon s.sun y 12 (omega arith))
      (⊎_elim
      (λ (c : Common (rule_of k) (laws_of k s) y). rw (c.place, c.count) refl)
      (λ (c : Long (rule_of k) (laws_of k s) y). rw (lt-ltb 0 l c.leap.from, le-leb l 12 c.leap.upto, c.count) refl)
      (two_kinds (rule_of k) (laws_of k s) y))

  pub lunations_bound : k.lunations < 16777216
  lunations_bound = omega (arith, s.lunations, s.years, before_bound k.years)

-- a year that is answered is one of the calendar's
pub record YearFound (k : Constants) (n y : ℕ) : Type 0 where
  pub upto : y < k.years
  pub written : n ≡ y + k.first

pub year_found : (k : Constants) (n y : ℕ) → Ok y ≡ year_at k n → YearFound k n y
unfolding year_at
year_found k n y e =
    let a : ℕ = k.first in
    let b : ℕ = k.first + k.years in
    let r = chosen (between a n b) (Ok (n - a)) (Err Refusal.Year) (Ok y) e (λ z. let bad : ◌≡◌ {A = ℕ} 0 1 = cc in omega arith) in
    let q : y ≡ n - a = cc r.1 in
    record {
      upto = omega (arith, between_low a n b r.0, between_high a n b r.0);
      written = omega (arith, between_low a n b r.0);
    }

pub year_at_lem : (k : Constants) (y : ℕ) → y < k.years → year_at k (y + k.first) ≡ Ok y
unfolding year_at
year_at_lem k y h =
    let e : y + k.first - k.first ≡ y = omega arith in
    rw (inside k.first (y + k.first) (k.first + k.years) (omega arith) (omega arith), e)

-- a month that is answered is at that place of that year
pub record LunationFound (k : Constants) (n p m : ℕ) : Type 0 where
  pub year : ℕ
  pub found : YearFound k n year
  pub place : p < month_count (rule_of k) year
  pub month : m ≡ (rule_of k).before year + p

pub lunation_found : (k : Constants) (n p m : ℕ) → Ok m ≡ lunation_at k n p → LunationFound k n p m
unfolding lunation_for
lunation_found k n p m e = go (year_at k n) refl e
  where
    go : (a : Result ℕ Refusal) → a ≡ year_at k n → Ok m ≡ lunation_for k a p → LunationFound k n p m
    go (Ok y) q e =
        let r = chosen (ltb p (month_count (rule_of k) y)) (Ok ((rule_of k).before y + p)) (Err Refusal.Place) (Ok m) e (λ z. let bad : ◌≡◌ {A = ℕ} 0 1 = cc in omega arith) in
        record { year = y; found = year_found k n y q; place = ltb→lt p (month_count (rule_of k) y) r.0; month = cc r.1 }
    go (Err x) q e = let bad : ◌≡◌ {A = ℕ} 0 1 = cc in absurd (omega arith)

pub lunation_at_lem : (k : Constants) (y p : ℕ) → y < k.years → p < month_count (rule_of k) y → lunation_at k (y + k.first) p ≡ Ok ((rule_of k).before y + p)
unfolding lunation_for
lunation_at_lem k y p h i = rw (year_at_lem k y h, lt-ltb p (month_count (rule_of k) y) i)
