-- The numbers returned by the jobs of the sky, as equations on all inputs, the lowest that applies first; and zero values with each refusal.
-- Assumes nothing.
use Rattle.sun.specs.declared.Point.{Point}
use Rattle.anomaly.specs.declared.Corrections.{Corrections}
use Rattle.node.specs.declared.Nodes.{Nodes}
use Rattle.moon.specs.declared.phases.Phases.{Phases}
use Rattle.std.specs.Prelude.{Result, Ok, Err}
use Rattle.refusal.specs.Numbers.{answer_number}
use Rattle.std.specs.Result.{result_unwrap_or}
use mathlib.Core.Path.{◌≡◌, ◌∙◌, refl, ap}
use mathlib.Core.Bool.{◌&&◌}
use Prim.Native.Nat.{ℕ, ◌-◌}
use lib.Dec.{ltb}
use Rattle.reckoning.specs.Search.{pick}
use Rattle.reckoning.proofs.Searches.{through}
use Rattle.refusal.specs.declared.Refusal.{Refusal}
use Rattle.sun.specs.Points.{is_cut, point_of}
use Rattle.units.specs.Xinghe.{is_year}
use Rattle.units.proofs.Years.{of_year}
use Rattle.calendar.proofs.Refusals.{is_place, of_place}
use Rattle.ephemeris.specs.Jobs.{phases_for, phases_at, nodes_for, nodes_at, corrections_for, corrections_at, point_in, point_for, cut_point}
use Rattle.ephemeris.specs.Answers.{zero_phases, zero_nodes, zero_corrections, zero_point}

pub phases_numbers : (n p : ℕ) → answer_number (phases_at n p) ≡ pick (is_year n) (pick (is_place n p) 0 2) 1
unfolding phases_for
phases_numbers n p = of_place (λ a. answer_number (phases_for a)) n p

pub nodes_numbers : (n p : ℕ) → answer_number (nodes_at n p) ≡ pick (is_year n) (pick (is_place n p) 0 2) 1
unfolding nodes_for
nodes_numbers n p = of_place (λ a. answer_number (nodes_for a)) n p

pub corrections_numbers : (n p : ℕ) → answer_number (corrections_at n p) ≡ pick (is_year n) (pick (is_place n p) 0 2) 1
unfolding corrections_for
corrections_numbers n p = of_place (λ a. answer_number (corrections_for a)) n p

pub point_numbers : (n c i : ℕ) → answer_number (cut_point n c i) ≡ pick (is_year n) (pick (is_cut c && ltb i c) 0 8) 1
unfolding point_for point_in
point_numbers n c i =
    of_year (λ a. answer_number (point_for a c i)) n
    ∙ ap (λ (x : ℕ). pick (is_year n) x 1)
    (through answer_number (is_cut c && ltb i c) (Ok (point_of (n - 1) c i)) (Err Refusal.Cut))

-- where the number is not 0, the values are all zero
pub phases_zero : (a : Result Phases Refusal) → ¬ (answer_number a ≡ 0) → result_unwrap_or a zero_phases ≡ zero_phases
phases_zero (Ok x) h = absurd (h refl)
phases_zero (Err e) h = refl

pub nodes_zero : (a : Result Nodes Refusal) → ¬ (answer_number a ≡ 0) → result_unwrap_or a zero_nodes ≡ zero_nodes
nodes_zero (Ok x) h = absurd (h refl)
nodes_zero (Err e) h = refl

pub corrections_zero : (a : Result Corrections Refusal) → ¬ (answer_number a ≡ 0) → result_unwrap_or a zero_corrections ≡ zero_corrections
corrections_zero (Ok x) h = absurd (h refl)
corrections_zero (Err e) h = refl

pub point_zero : (a : Result Point Refusal) → ¬ (answer_number a ≡ 0) → result_unwrap_or a zero_point ≡ zero_point
point_zero (Ok x) h = absurd (h refl)
point_zero (Err e) h = refl
