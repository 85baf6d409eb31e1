-- The numbers returned (01, "Numbers returned"), as equations on all inputs, the lowest that applies first; and zero values with each refusal.
-- Assumes nothing.
use Rattle.calendar.specs.declared.MonthRow.{MonthRow}
use Rattle.calendar.specs.declared.YearHead.{YearHead}
use Rattle.std.specs.Prelude.{Result, Ok, Err}
use Rattle.refusal.specs.Numbers.{answer_number}
use Rattle.std.specs.Result.{result_unwrap_or}
use mathlib.Core.Path.{◌≡◌, refl}
use mathlib.Core.Bool.{Bool}
use Prim.Native.Nat.{ℕ, suc, ◌+◌, ◌-◌}
use lib.Dec.{ltb}
use Rattle.reckoning.specs.Search.{pick, between}
use Rattle.reckoning.specs.Rule.{month_count}
use Rattle.refusal.specs.declared.Refusal.{Refusal}
use Rattle.lunisolar.specs.Calendars.{lunation_at}
use Rattle.lunisolar.specs.Dates.{month_days}
use Rattle.lunisolar.proofs.Numbers as numbers
use Rattle.units.specs.Xinghe.{xinghe, rule, round_days, is_year}
use Rattle.units.proofs.Years.{of_year}
use Rattle.calendar.specs.Heads.{head_for, year_head}
use Rattle.calendar.specs.Rows.{row_for, month_row}
use Rattle.calendar.specs.Dates.{day_of_date, date_of_day}
use Rattle.calendar.specs.Answers.{zero_head, zero_row}

-- the place is one of the year's
abbrev pub is_place : ℕ → ℕ → Bool
is_place n p = ltb p (month_count rule (n - 1))

-- the day is one of the month's
abbrev pub is_day : ℕ → ℕ → ℕ → Bool
is_day n p i = between 1 i (suc (month_days xinghe (rule.before (n - 1) + p)))

-- what is made of a year that is sought, and of a place in it
pub of_place : {B : Type 0} (f : Result ℕ Refusal → B) (n p : ℕ) → f (lunation_at xinghe n p) ≡
    pick (is_year n) (pick (is_place n p) (f (Ok (rule.before (n - 1) + p))) (f (Err Refusal.Place))) (f (Err Refusal.Year))
of_place f n p = numbers.of_place xinghe f n p

pub head_numbers : (n : ℕ) → answer_number (year_head n) ≡ pick (is_year n) 0 1
unfolding head_for
head_numbers n = of_year (λ a. answer_number (head_for a)) n

pub row_numbers : (n p : ℕ) → answer_number (month_row n p) ≡ pick (is_year n) (pick (is_place n p) 0 2) 1
unfolding row_for
row_numbers n p = of_place (λ a. answer_number (row_for a)) n p

pub day_numbers : (n p i : ℕ) → answer_number (day_of_date n p i) ≡ pick (is_year n) (pick (is_place n p) (pick (is_day n p i) 0 3) 2) 1
day_numbers = numbers.day_numbers xinghe

pub date_numbers : (d : ℕ) → answer_number (date_of_day d) ≡ pick (ltb d round_days) 0 7
date_numbers = numbers.date_numbers xinghe

-- where the number is not 0, the values are all zero
pub head_zero : (a : Result YearHead Refusal) → ¬ (answer_number a ≡ 0) → result_unwrap_or a zero_head ≡ zero_head
head_zero (Ok x) h = absurd (h refl)
head_zero (Err e) h = refl

pub row_zero : (a : Result MonthRow Refusal) → ¬ (answer_number a ≡ 0) → result_unwrap_or a zero_row ≡ zero_row
row_zero (Ok x) h = absurd (h refl)
row_zero (Err e) h = refl
