-- The numbers returned by the planets' jobs, as equations on all inputs, the year's before the planet's; and zero values with each refusal.
-- Assumes nothing.
use Rattle.planets.specs.declared.TwoConjunctions.{TwoConjunctions}
use Rattle.std.specs.Prelude.{Result, Ok, Err}
use Rattle.refusal.specs.Numbers.{answer_number}
use Rattle.std.specs.Result.{result_unwrap_or}
use mathlib.Core.Path.{◌≡◌, ◌∙◌, refl, ap}
use Prim.Native.Nat.{ℕ, ◌-◌}
use lib.ListN.{length}
use Rattle.reckoning.specs.Search.{pick}
use Rattle.reckoning.proofs.Searches.{through}
use Rattle.refusal.specs.declared.Refusal.{Refusal}
use Rattle.units.specs.Xinghe.{is_year}
use Rattle.units.proofs.Years.{of_year}
use Rattle.planets.specs.Planets.{is_planet, planet_of}
use Rattle.planets.specs.Answers.{conjunctions_of, zero_conjunctions}
use Rattle.planets.specs.Stages.{stages_of, in_room}
use Rattle.planets.specs.Jobs.{conjunctions_in, conjunctions_for, conjunctions_at, stages_at, zero_stages, shown_stages}
use Rattle.planets.specs.declared.StageList.{StageList}

pub conjunctions_numbers : (n p : ℕ) → answer_number (conjunctions_at n p) ≡ pick (is_year n) (pick (is_planet p) 0 9) 1
unfolding conjunctions_for conjunctions_in
conjunctions_numbers n p =
    of_year (λ a. answer_number (conjunctions_for a p)) n
    ∙ ap (λ (x : ℕ). pick (is_year n) x 1)
    (through answer_number (is_planet p) (Ok (conjunctions_of (planet_of p) (n - 1))) (Err Refusal.Planet))

-- where the number is not 0, the values are all zero
pub conjunctions_zero : (a : Result TwoConjunctions Refusal) → ¬ (answer_number a ≡ 0) → result_unwrap_or a zero_conjunctions ≡ zero_conjunctions
conjunctions_zero (Ok x) h = absurd (h refl)
conjunctions_zero (Err e) h = refl

pub stages_numbers : (p : ℕ) → answer_number (stages_at p) ≡ pick (is_planet p) 0 9
unfolding stages_at
stages_numbers p = through answer_number (is_planet p) (Ok (record { count = length (stages_of p); stages = in_room (stages_of p) })) (Err Refusal.Planet)

pub stages_zero : (p : ℕ) → ¬ (answer_number (stages_at p) ≡ 0) → shown_stages p ≡ zero_stages
stages_zero p = go (stages_at p)
  where
    go : (a : Result StageList Refusal) → ¬ (answer_number a ≡ 0) → result_unwrap_or a zero_stages ≡ zero_stages
    go (Ok s) h = absurd (h refl)
    go (Err e) h = refl
