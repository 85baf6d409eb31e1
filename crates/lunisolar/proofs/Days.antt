-- The days of a calendar: each lies in exactly one month, and date to day number and day number to date undo one another.
-- Assumes nothing.
use Rattle.std.specs.Prelude.{Result, Ok, Err}
use Rattle.std.specs.Result.{result_unwrap_or}
use mathlib.Core.Path.{◌≡◌, ◌∙◌, refl, sym, ap}
use Prim.Native.Nat.{ℕ, suc, ◌+◌, ◌-◌, ◌*◌, ◌<◌, ◌≤◌}
use native.Mathlib.Omega.{arith}
use native.Mathlib.Nat.{div-add-mod'}
use borrow.Author.Tests.{lt-ltb}
use Rattle.reckoning.specs.Search.{between}
use Rattle.reckoning.specs.Means.{new_moon, new_moon_rest}
use Rattle.reckoning.specs.Dates.{month_of}
use Rattle.reckoning.proofs.Searches.{chosen, inside, between_low, between_high}
use Rattle.reckoning.proofs.Climbs.{climb_le}
use Rattle.reckoning.proofs.Moons.{length_by_lem}
use Rattle.reckoning.proofs.Dates.{month_is, month_from, month_to}
use Rattle.refusal.specs.declared.Refusal.{Refusal}
use Rattle.lunisolar.specs.Calendars.{means_of, Sound, lunation_at}
use Rattle.lunisolar.specs.Dates.{day_of, month_days, length_by, day_in, day_for, day_of_date, date_in, date_of_day}
use Rattle.lunisolar.specs.Answers.{zero_day}
use Rattle.lunisolar.specs.declared.Constants.{Constants}
use Rattle.lunisolar.specs.declared.dates.Date.{Date}
use Rattle.lunisolar.specs.declared.dates.Day.{Day}
use Rattle.lunisolar.proofs.Laws.{days_climb}
use Rattle.lunisolar.proofs.Rounds.{month_in_round, lunation_in_round, month_to_place, place_to_month}

-- day d is one of the days of month m of the calendar
pub record Within (k : Constants) (d m : ℕ) : Type 0 where
  pub month : m < k.lunations
  pub from : new_moon (means_of k) m ≤ d
  pub upto : d < new_moon (means_of k) m + month_days k m

module _ (k : Constants) (s : Sound k) where
  -- a month ends where the next begins
  pub next_day : (m : ℕ) → new_moon (means_of k) m + month_days k m ≡ new_moon (means_of k) (suc m)
  unfolding month_days
  next_day m = omega (arith, (days_climb k s).step m)

  -- a month on, the small remainder is a month's parts more, and the parts of its days less
  pub next_rest : (m : ℕ) → new_moon_rest (means_of k) (suc m) + month_days k m * k.day ≡ new_moon_rest (means_of k) m + k.month
  unfolding new_moon new_moon_rest
  next_rest m =
      omega (
        arith,
        div-add-mod' (m * k.month) k.day,
        div-add-mod' (suc m * k.month) k.day,
        ap (λ (x : ℕ). x * k.day) (next_day m),
      )

  -- its length by the small remainder
  pub length_is : (m : ℕ) → length_by k (new_moon_rest (means_of k) m) ≡ month_days k m
  length_is m = omega (arith, length_by_lem (means_of k) s.moon m, next_day m)

  -- EACH DAY OF THE CALENDAR LIES IN A MONTH OF IT, AND IN NO OTHER
  pub in_a_month : (d : ℕ) → d < k.days → Within k d (month_of (new_moon (means_of k)) d)
  in_a_month d h =
      let m : ℕ = month_of (new_moon (means_of k)) d in
      record {
        month = month_in_round k s d h;
        from = month_from (new_moon (means_of k)) (days_climb k s) d;
        upto = omega (arith, next_day m, month_to (new_moon (means_of k)) (days_climb k s) d);
      }

  pub in_no_other : (d m : ℕ) → Within k d m → month_of (new_moon (means_of k)) d ≡ m
  in_no_other d m w = month_is (new_moon (means_of k)) (days_climb k s) d m w.from (omega (arith, next_day m, w.upto))

  -- and the months' days are the calendar's
  pub in_the_round : (d m : ℕ) → Within k d m → d < k.days
  in_the_round d m w =
      omega (arith, next_day m, w.upto, s.days, climb_le (new_moon (means_of k)) (days_climb k s) (suc m) k.lunations w.month)

  -- the date of day d of month m
  date_within : (d m : ℕ) → Within k d m → date_of_day k d ≡ Ok (date_in k m d)
  unfolding date_of_day
  date_within d m w = rw (lt-ltb d k.days (in_the_round d m w), in_no_other d m w)

  -- DAY NUMBER TO DATE AND BACK: every day of the calendar has a date, whose day it is
  pub day_date_day : (d : ℕ) → d < k.days →
      (x : Date) × (date_of_day k d ≡ Ok x) × (day_of_date k x.year x.place x.day ≡ Ok (day_of d))
  unfolding day_for day_in date_in
  day_date_day d h =
      let m : ℕ = month_of (new_moon (means_of k)) d in
      let w = in_a_month d h in
      let f : ℕ = new_moon (means_of k) m in
      let e : f + (d - f + 1 - 1) ≡ d = omega (arith, w.from) in (
        date_in k m d,
        date_within d m w,
        rw (month_to_place k s m w.month, inside 1 (d - f + 1) (suc (month_days k m)) (omega arith) (omega (arith, w.from, w.upto)), e),
      )

  -- DATE TO DAY NUMBER AND BACK: every date that has a day is that day's date
  pub date_day_date : (n p i d : ℕ) → day_of_date k n p i ≡ Ok (day_of d) → date_of_day k d ≡ Ok (record { year = n; place = p; day = i })
  unfolding day_for day_in date_in
  date_day_date n p i d e = go (lunation_at k n p) refl e
    where
      go : (a : Result ℕ Refusal) → a ≡ lunation_at k n p → day_for k a i ≡ Ok (day_of d) → date_of_day k d ≡ Ok (record { year = n; place = p; day = i })
      go (Ok m) q e =
          let f : ℕ = new_moon (means_of k) m in
          let t : ℕ = suc (month_days k m) in
          let r = chosen (between 1 i t) (Ok (day_of (f + (i - 1)))) (Err Refusal.DayOfMonth) (Ok (day_of d)) (sym e)
          (λ z. let bad : ◌≡◌ {A = ℕ} 0 1 = cc in omega arith) in
          let same : d ≡ f + (i - 1) = ap (λ (x : Result Day Refusal). (result_unwrap_or x zero_day).number) r.1 in
          let lo = between_low 1 i t r.0 in
          let hi = between_high 1 i t r.0 in
          let w : Within k d m = record { month = lunation_in_round k s n p m q; from = omega arith; upto = omega arith } in
          let at = place_to_month k s n p m q in
          let day : d - f + 1 ≡ i = omega arith in
          date_within d m w ∙ rw (at.0, at.1, day)
      go (Err x) q e = let bad : ◌≡◌ {A = ℕ} 0 1 = cc in absurd (omega arith)
