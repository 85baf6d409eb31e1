-- The numbers returned (01, "Numbers returned") in any calendar, as equations on all inputs, the lowest that applies first; and zero values with each
-- refusal.
-- Assumes nothing.
use Rattle.std.specs.Prelude.{Result, Ok, Err}
use Rattle.refusal.specs.Numbers.{answer_number}
use Rattle.std.specs.Result.{result_unwrap_or}
use mathlib.Core.Path.{◌≡◌, ◌∙◌, refl, ap}
use mathlib.Core.Bool.{Bool}
use Prim.Native.Nat.{ℕ, suc, ◌+◌, ◌-◌}
use lib.Dec.{ltb}
use Rattle.reckoning.specs.Search.{pick, between}
use Rattle.reckoning.specs.Rule.{month_count}
use Rattle.reckoning.specs.Means.{new_moon}
use Rattle.reckoning.specs.Dates.{month_of}
use Rattle.reckoning.proofs.Searches.{through}
use Rattle.refusal.specs.declared.Refusal.{Refusal}
use Rattle.lunisolar.specs.Calendars.{means_of, rule_of, year_at, lunation_for, lunation_at}
use Rattle.lunisolar.specs.Dates.{day_of, month_days, day_in, day_for, day_of_date, date_in, date_of_day}
use Rattle.lunisolar.specs.Answers.{zero_day, zero_date}
use Rattle.lunisolar.specs.declared.Constants.{Constants}
use Rattle.lunisolar.specs.declared.dates.Date.{Date}
use Rattle.lunisolar.specs.declared.dates.Day.{Day}

module _ (k : Constants) where
  -- the year is one of the calendar's
  abbrev pub is_year : ℕ → Bool
  is_year n = between k.first n (k.first + k.years)

  -- the place is one of the year's
  abbrev pub is_place : ℕ → ℕ → Bool
  is_place n p = ltb p (month_count (rule_of k) (n - k.first))

  -- the day is one of the month's
  abbrev pub is_day : ℕ → ℕ → ℕ → Bool
  is_day n p i = between 1 i (suc (month_days k ((rule_of k).before (n - k.first) + p)))

  -- what is made of a year that is sought, and of a place in it
  pub of_year : {B : Type 0} (f : Result ℕ Refusal → B) (n : ℕ) → f (year_at k n) ≡ pick (is_year n) (f (Ok (n - k.first))) (f (Err Refusal.Year))
  unfolding year_at
  of_year f n = through f (is_year n) (Ok (n - k.first)) (Err Refusal.Year)

  pub of_place : {B : Type 0} (f : Result ℕ Refusal → B) (n p : ℕ) → f (lunation_at k n p) ≡
      pick (is_year n) (pick (is_place n p) (f (Ok ((rule_of k).before (n - k.first) + p))) (f (Err Refusal.Place))) (f (Err Refusal.Year))
  unfolding lunation_for
  of_place f n p =
      of_year (λ a. f (lunation_for k a p)) n
      ∙ ap (λ x. pick (is_year n) x (f (Err Refusal.Year)))
      (through f (is_place n p) (Ok ((rule_of k).before (n - k.first) + p)) (Err Refusal.Place))

  pub day_numbers : (n p i : ℕ) → answer_number (day_of_date k n p i) ≡ pick (is_year n) (pick (is_place n p) (pick (is_day n p i) 0 3) 2) 1
  unfolding day_for day_in
  day_numbers n p i =
      of_place (λ a. answer_number (day_for k a i)) n p
      ∙ ap (λ (x : ℕ). pick (is_year n) (pick (is_place n p) x 2) 1)
      (through answer_number (is_day n p i) (Ok (day_of (new_moon (means_of k) ((rule_of k).before (n - k.first) + p) + (i - 1)))) (Err Refusal.DayOfMonth))

  pub date_numbers : (d : ℕ) → answer_number (date_of_day k d) ≡ pick (ltb d k.days) 0 7
  unfolding date_of_day
  date_numbers d = through answer_number (ltb d k.days) (Ok (date_in k (month_of (new_moon (means_of k)) d) d)) (Err Refusal.Day)

-- where the number is not 0, the values are all zero
pub day_zero : (a : Result Day Refusal) → ¬ (answer_number a ≡ 0) → result_unwrap_or a zero_day ≡ zero_day
day_zero (Ok x) h = absurd (h refl)
day_zero (Err e) h = refl

pub date_zero : (a : Result Date Refusal) → ¬ (answer_number a ≡ 0) → result_unwrap_or a zero_date ≡ zero_date
date_zero (Ok x) h = absurd (h refl)
date_zero (Err e) h = refl
