-- The numbers returned (01, "Numbers returned") by the jobs of any calendar, as equations on all inputs, the lowest that applies first; and zero values
-- with each refusal.
-- Assumes nothing.
use Rattle.mean_calendar.specs.declared.MeanHead.{MeanHead}
use Rattle.mean_calendar.specs.declared.MeanMonth.{MeanMonth}
use Rattle.mean_calendar.specs.declared.MeanPoint.{MeanPoint}
use Rattle.std.specs.Prelude.{Result, Ok, Err}
use Rattle.refusal.specs.declared.Refusal.{Refusal}
use Rattle.refusal.specs.Numbers.{answer_number}
use Rattle.std.specs.Result.{result_unwrap_or}
use mathlib.Core.Path.{◌≡◌, ◌∙◌, refl, ap}
use mathlib.Core.Bool.{Bool, true, false, ◌&&◌}
use mathlib.Core.List.{List}
use Prim.Native.Nat.{ℕ, ◌-◌, ◌<◌}
use native.Mathlib.Omega.{arith}
use lib.Dec.{ltb}
use lib.IntN.{ℤ, pos, nat_abs, ◌+ℤ◌}
use lib.ListN.{length, get_or}
use Rattle.reckoning.specs.Search.{pick}
use Rattle.reckoning.proofs.Searches.{through}
use Rattle.lunisolar.specs.declared.Constants.{Constants}
use Rattle.lunisolar.proofs.Numbers.{is_year, is_place, of_year, of_place}
use Rattle.walking.specs.Walk.{in_round}
use Rattle.walking.specs.Fields.{named_month}
use Rattle.walking.proofs.Bits.{bit_most}
use Rattle.walking.proofs.HandedIn as handed
use Rattle.mean_calendar.specs.Heads.{head_for, year_head}
use Rattle.mean_calendar.specs.Months.{month_of, month_for, month_row, field_count, month_fields}
use Rattle.mean_calendar.specs.Points.{is_cut, point_of, point_in, point_for, cut_point}
use Rattle.mean_calendar.specs.Carries.{months_of, genuine_fields, carried_fields}
use Rattle.mean_calendar.specs.Answers.{zero_head, zero_month, zero_point}

module _ (k : Constants) where
  pub head_numbers : (n : ℕ) → answer_number (year_head k n) ≡ pick (is_year k n) 0 1
  unfolding head_for
  head_numbers n = of_year k (λ a. answer_number (head_for k a)) n

  pub month_numbers : (n p : ℕ) → answer_number (month_row k n p) ≡ pick (is_year k n) (pick (is_place k n p) 0 2) 1
  unfolding month_for
  month_numbers n p = of_place k (λ a. answer_number (month_for k a)) n p

  pub point_numbers : (n c i : ℕ) → answer_number (cut_point k n c i) ≡ pick (is_year k n) (pick (is_cut c && ltb i c) 0 8) 1
  unfolding point_for point_in
  point_numbers n c i =
      of_year k (λ a. answer_number (point_for k a c i)) n
      ∙ ap (λ (x : ℕ). pick (is_year k n) x 1)
      (through answer_number (is_cut c && ltb i c) (Ok (point_of k (n - k.first) c i)) (Err Refusal.Cut))

  module _ (f : List ℕ) where
    -- REFUSED UNDER 4 EXACTLY WHERE THE NUMBERS ARE NOT GENUINE, then under 5 exactly where the count leads outside the months of the calendar's years
    pub carry_numbers : (c : ℤ) → answer_number (carried_fields k f c) ≡ pick (genuine_fields k f) (pick (in_round k.lunations (pos (named_month f) +ℤ c)) 0 5) 4
    carry_numbers c = go (genuine_fields k f) (in_round k.lunations (pos (named_month f) +ℤ c))
      where
        go : (b i : Bool) → answer_number ((pick b (pick i (Ok (month_of k (nat_abs (pos (named_month f) +ℤ c)))) (Err Refusal.Carry)) (Err Refusal.Row))) ≡ pick b (pick i 0 5) 4
        go true true = refl
        go true false = refl
        go false i = refl

    -- GENUINE NUMBERS ARE, EVERY ONE OF THEM, THOSE OF THE MONTH THAT THEY NAME; a leap mark other than 0 and 1 is no genuine month's
    pub genuine_is_month : length f ≡ field_count → genuine_fields k f ≡ true → (named_month f < k.lunations) × (f ≡ month_fields (month_of k (named_month f)))
    genuine_is_month l g = handed.genuine_is_row (months_of k) field_count month_fields f l refl g

    pub forged_mark : 1 < get_or f 4 0 → genuine_fields k f ≡ false
    forged_mark h =
        handed.not_genuine (months_of k) field_count month_fields f
        (λ g. omega (arith, h, handed.same_at (months_of k) field_count month_fields f g 4 (omega arith), bit_most (month_of k (named_month f)).leap))

-- where the number is not 0, the values are all zero
pub head_zero : (a : Result MeanHead Refusal) → ¬ (answer_number a ≡ 0) → result_unwrap_or a zero_head ≡ zero_head
head_zero (Ok x) h = absurd (h refl)
head_zero (Err e) h = refl

pub month_zero : (a : Result MeanMonth Refusal) → ¬ (answer_number a ≡ 0) → result_unwrap_or a zero_month ≡ zero_month
month_zero (Ok x) h = absurd (h refl)
month_zero (Err e) h = refl

pub point_zero : (a : Result MeanPoint Refusal) → ¬ (answer_number a ≡ 0) → result_unwrap_or a zero_point ≡ zero_point
point_zero (Ok x) h = absurd (h refl)
point_zero (Err e) h = refl
