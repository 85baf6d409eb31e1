-- The number that a walk returns, as an equation on all inputs, and zero values with its refusal (01, "Numbers returned").
-- Assumes nothing.
use Rattle.walking.specs.declared.Walked.{Walked}
use Rattle.std.specs.Prelude.{Result, Ok, Err}
use Rattle.refusal.specs.Numbers.{answer_number}
use Rattle.std.specs.Result.{result_unwrap_or}
use mathlib.Core.Path.{◌≡◌, refl}
use mathlib.Core.List.{List}
use lib.IntN.{ℤ}
use Rattle.reckoning.specs.Search.{pick}
use Rattle.reckoning.proofs.Searches.{through}
use Rattle.refusal.specs.declared.Refusal.{Refusal}
use Rattle.walking.specs.Walk.{genuine}
use Rattle.calendar.specs.Carries.{months}
use Rattle.calendar.specs.declared.MonthRow.{MonthRow}
use Rattle.walk.specs.Walked.{walked, walk_answer, zero_walk}

pub walk_numbers : (r : MonthRow) (cs : List ℤ) → answer_number (walk_answer r cs) ≡ pick (genuine months r) 0 4
walk_numbers r cs = through answer_number (genuine months r) (Ok (walked r cs)) (Err Refusal.Row)

-- where the number is not 0, the values are all zero
pub walk_zero : (a : Result (Walked MonthRow) Refusal) → ¬ (answer_number a ≡ 0) → result_unwrap_or a zero_walk ≡ zero_walk
walk_zero (Ok w) h = absurd (h refl)
walk_zero (Err e) h = refl
