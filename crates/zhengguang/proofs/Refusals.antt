-- The numbers returned (01, "Numbers returned"), as equations on all inputs, the lowest that applies first; and zero values with each refusal.
-- Assumes nothing.
use Rattle.walking.specs.declared.Walked.{Walked}
use Rattle.zhengguang.specs.declared.MonthNodes.{MonthNodes}
use Rattle.zhengguang.specs.declared.ZhengguangHead.{ZhengguangHead}
use Rattle.mean_calendar.specs.declared.MeanMonth.{MeanMonth}
use Rattle.mean_calendar.specs.declared.MeanHead.{MeanHead}
use Rattle.std.specs.Prelude.{Result, Ok, Err}
use Rattle.refusal.specs.declared.Refusal.{Refusal}
use Rattle.refusal.specs.Numbers.{answer_number}
use Rattle.std.specs.Result.{result_unwrap_or}
use mathlib.Core.Path.{◌≡◌, ◌∙◌, refl}
use mathlib.Core.Bool.{Bool, true, false}
use mathlib.Core.List.{List}
use Prim.Native.Nat.{ℕ, ◌<◌}
use native.Mathlib.Omega.{arith}
use lib.IntN.{ℤ, pos, nat_abs, ◌+ℤ◌}
use lib.ListN.{length, get_or}
use Rattle.reckoning.specs.Search.{pick}
use Rattle.reckoning.proofs.Searches.{through}
use Rattle.lunisolar.proofs.Numbers.{is_year, is_place, of_place}
use Rattle.walking.specs.Walk.{in_round, genuine}
use Rattle.walking.specs.Fields.{named_month}
use Rattle.walking.proofs.Bits.{bit_most}
use Rattle.walking.proofs.HandedIn as handed
use Rattle.mean_calendar.specs.Heads as heads
use Rattle.mean_calendar.specs.Months as months
use Rattle.mean_calendar.proofs.Refusals as any-calendar
use Rattle.zhengguang.specs.Zhengguang.{zhengguang, round_months}
use Rattle.zhengguang.specs.Nodes.{nodes_for, nodes_at}
use Rattle.zhengguang.specs.Rows.{head_by, year_head, row_of, row_for, month_row, field_count, row_fields}
use Rattle.zhengguang.specs.Answers.{zero_head, zero_row, zero_nodes}
use Rattle.zhengguang.specs.Carries.{rows, genuine_fields, carried_fields, walked, walk_answer, walk_answer_fields, zero_walk}
use Rattle.zhengguang.specs.declared.ZhengguangRow.{ZhengguangRow}

pub head_numbers : (n : ℕ) → answer_number (year_head n) ≡ pick (is_year zhengguang n) 0 1
unfolding head_by
head_numbers n = go (heads.year_head zhengguang n) ∙ any-calendar.head_numbers zhengguang n
  where
    go : (a : Result MeanHead Refusal) → answer_number (head_by n a) ≡ answer_number a
    go (Ok h) = refl
    go (Err e) = refl

pub row_numbers : (n p : ℕ) → answer_number (month_row n p) ≡ pick (is_year zhengguang n) (pick (is_place zhengguang n p) 0 2) 1
unfolding row_for
row_numbers n p = go (months.month_row zhengguang n p) ∙ any-calendar.month_numbers zhengguang n p
  where
    go : (a : Result MeanMonth Refusal) → answer_number (row_for a) ≡ answer_number a
    go (Ok r) = refl
    go (Err e) = refl

pub nodes_numbers : (n p : ℕ) → answer_number (nodes_at n p) ≡ pick (is_year zhengguang n) (pick (is_place zhengguang n p) 0 2) 1
unfolding nodes_for
nodes_numbers n p = of_place zhengguang (λ a. answer_number (nodes_for a)) n p

module _ (f : List ℕ) where
  -- REFUSED UNDER 4 EXACTLY WHERE THE NUMBERS ARE NOT GENUINE, then under 5 exactly where the count leads outside the months of the round
  pub carry_numbers : (c : ℤ) → answer_number (carried_fields f c) ≡ pick (genuine_fields f) (pick (in_round round_months (pos (named_month f) +ℤ c)) 0 5) 4
  carry_numbers c = go (genuine_fields f) (in_round round_months (pos (named_month f) +ℤ c))
    where
      go : (b i : Bool) → answer_number ((pick b (pick i (Ok (row_of (nat_abs (pos (named_month f) +ℤ c)))) (Err Refusal.Carry)) (Err Refusal.Row))) ≡ pick b (pick i 0 5) 4
      go true true = refl
      go true false = refl
      go false i = refl

  -- GENUINE NUMBERS ARE, EVERY ONE OF THEM, THOSE OF THE ROW OF THE MONTH THAT THEY NAME; a leap mark other than 0 and 1 is no genuine row's
  pub genuine_is_row : length f ≡ field_count → genuine_fields f ≡ true → (named_month f < round_months) × (f ≡ row_fields (row_of (named_month f)))
  genuine_is_row l g = handed.genuine_is_row rows field_count row_fields f l refl g

  pub forged_mark : 1 < get_or f 4 0 → genuine_fields f ≡ false
  forged_mark h =
      handed.not_genuine rows field_count row_fields f
      (λ g. omega (arith, h, handed.same_at rows field_count row_fields f g 4 (omega arith), bit_most (row_of (named_month f)).mean.leap))

pub walk_numbers : (r : ZhengguangRow) (cs : List ℤ) → answer_number (walk_answer r cs) ≡ pick (genuine rows r) 0 4
walk_numbers r cs = through answer_number (genuine rows r) (Ok (walked r cs)) (Err Refusal.Row)

-- from a row handed in as numbers
pub walk_fields_numbers : (f : List ℕ) (cs : List ℤ) → answer_number (walk_answer_fields f cs) ≡ pick (genuine_fields f) 0 4
walk_fields_numbers f cs =
    through answer_number (genuine_fields f) (Ok (walked (row_of (named_month f)) cs)) (Err Refusal.Row)

-- where the number is not 0, the values are all zero
pub head_zero : (a : Result ZhengguangHead Refusal) → ¬ (answer_number a ≡ 0) → result_unwrap_or a zero_head ≡ zero_head
head_zero (Ok x) h = absurd (h refl)
head_zero (Err e) h = refl

pub row_zero : (a : Result ZhengguangRow Refusal) → ¬ (answer_number a ≡ 0) → result_unwrap_or a zero_row ≡ zero_row
row_zero (Ok x) h = absurd (h refl)
row_zero (Err e) h = refl

pub nodes_zero : (a : Result MonthNodes Refusal) → ¬ (answer_number a ≡ 0) → result_unwrap_or a zero_nodes ≡ zero_nodes
nodes_zero (Ok x) h = absurd (h refl)
nodes_zero (Err e) h = refl

pub walk_zero : (a : Result (Walked ZhengguangRow) Refusal) → ¬ (answer_number a ≡ 0) → result_unwrap_or a zero_walk ≡ zero_walk
walk_zero (Ok w) h = absurd (h refl)
walk_zero (Err e) h = refl
