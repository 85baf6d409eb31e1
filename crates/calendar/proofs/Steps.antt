-- The elements of a month's new moon lead to those of the next.
-- Assumes nothing.
use Rattle.calendar.specs.declared.YearHead.{YearHead}
use Rattle.std.specs.Prelude.{Result, Ok, Err}
use Rattle.refusal.specs.declared.Refusal.{Refusal}
use Rattle.std.specs.Result.{result_unwrap_or}
use mathlib.Core.Path.{◌≡◌, refl, sym}
use Prim.Native.Nat.{ℕ, suc, ◌-◌, ◌<◌}
use native.Mathlib.Omega.{arith}
use Rattle.reckoning.specs.Means.{new_moon, new_moon_rest}
use Rattle.reckoning.proofs.Leaps.{year_low, year_ends}
use Rattle.lunisolar.proofs.Rounds.{in_round_lem}
use Rattle.units.specs.Xinghe.{xinghe, rule, round_months}
use Rattle.units.proofs.Sound.{sound, laws}
use Rattle.moon.specs.NewMoons.{new_moon_of}
use Rattle.moon.proofs.Addition.{next_new_moon}
use Rattle.node.proofs.Steps.{next_passage_lem}
use Rattle.anomaly.proofs.Steps.{next_into_anomaly}
use Rattle.calendar.specs.Heads.{head_of, year_head}
use Rattle.calendar.specs.Answers.{zero_head}
use Rattle.calendar.specs.Elements.{elements_of, next_elements, ElementsBound}
use Rattle.calendar.proofs.Round.{head_found, head_stands}

pub next_elements_lem : (m : ℕ) → next_elements (elements_of m) ≡ elements_of (suc m)
next_elements_lem m = rw (sym (next_new_moon m), next_passage_lem m, next_into_anomaly m) refl

pub elements_bound : (m : ℕ) → m < round_months → ElementsBound (elements_of m)
unfolding new_moon_of new_moon new_moon_rest
elements_bound m h =
    record { day = omega (arith, h); remainder = omega arith; since = omega arith; nodes = omega (arith, h); into = omega arith }

-- a year begins in the round; what is no year has zeros
pub head_before : (n : ℕ) → (result_unwrap_or (year_head n) zero_head).before < round_months
unfolding head_of
head_before n = go (year_head n) refl
  where
    go : (a : Result YearHead Refusal) → a ≡ year_head n → (result_unwrap_or a zero_head).before < round_months
    go (Ok head) q =
        let y : ℕ = n - 1 in
        let some : 0 < head.months = rw (head_found n head q).is_head (omega (arith, year_ends rule laws y, year_low rule laws y)) in
        omega (arith, in_round_lem xinghe sound y 0 _ (head_stands n head q 0 some))
    go (Err e) q = omega arith
