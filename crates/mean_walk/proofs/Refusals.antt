-- The number that a walk returns in any calendar, as an equation on all inputs, and zero values with its refusal (01, "Numbers returned").
-- Assumes nothing.
use Rattle.walking.specs.declared.Walked.{Walked}
use Rattle.mean_calendar.specs.declared.MeanMonth.{MeanMonth}
use Rattle.std.specs.Prelude.{Result, Ok, Err}
use Rattle.refusal.specs.Numbers.{answer_number}
use Rattle.std.specs.Result.{result_unwrap_or}
use mathlib.Core.Path.{◌≡◌, refl}
use mathlib.Core.List.{List}
use Prim.Native.Nat.{ℕ}
use lib.IntN.{ℤ}
use Rattle.reckoning.specs.Search.{pick}
use Rattle.reckoning.proofs.Searches.{through}
use Rattle.refusal.specs.declared.Refusal.{Refusal}
use Rattle.lunisolar.specs.declared.Constants.{Constants}
use Rattle.walking.specs.Walk.{genuine}
use Rattle.walking.specs.Fields.{named_month}
use Rattle.mean_calendar.specs.Months.{month_of}
use Rattle.mean_calendar.specs.Carries.{months_of, genuine_fields}
use Rattle.mean_walk.specs.Walked.{walked, walk_answer, walk_answer_fields, zero_walk}

pub walk_numbers : (k : Constants) (r : MeanMonth) (cs : List ℤ) → answer_number (walk_answer k r cs) ≡ pick (genuine (months_of k) r) 0 4
walk_numbers k r cs = through answer_number (genuine (months_of k) r) (Ok (walked k r cs)) (Err Refusal.Row)

-- from a month handed in as numbers
pub walk_fields_numbers : (k : Constants) (f : List ℕ) (cs : List ℤ) → answer_number (walk_answer_fields k f cs) ≡ pick (genuine_fields k f) 0 4
walk_fields_numbers k f cs =
    through answer_number (genuine_fields k f) (Ok (walked k (month_of k (named_month f)) cs)) (Err Refusal.Row)

-- where the number is not 0, the values are all zero
pub walk_zero : (a : Result (Walked MeanMonth) Refusal) → ¬ (answer_number a ≡ 0) → result_unwrap_or a zero_walk ≡ zero_walk
walk_zero (Ok w) h = absurd (h refl)
walk_zero (Err e) h = refl
