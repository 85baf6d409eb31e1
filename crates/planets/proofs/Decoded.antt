-- The rows of the table: a stage is found again in its ten numbers, and no row has degrees that leave 64 bits.
-- Assumes nothing.
use mathlib.Core.Path.{◌≡◌, refl}
use mathlib.Core.Logic.{⊎_elim}
use mathlib.Core.Bool.{Bool, true, cond, ◌&&◌}
use mathlib.Core.List.{List, [], ◌∷◌, map}
use Prim.Native.Nat.{ℕ, zero, suc}
use native.Mathlib.Omega.{arith}
use lib.Dec.{T, ltb, ltb→lt}
use lib.IntN.{ℤ, pos, negsuc, nat_abs}
use lib.ListN.{get_or}
use Rattle.reckoning.proofs.Searches.{T_true, T_false, decide, both_left, both_right}
use Rattle.planets.specs.declared.Apparition.{Apparition}
use Rattle.planets.specs.declared.StageKind.{StageKind}
use Rattle.planets.specs.declared.Stage.{Stage}
use Rattle.planets.specs.Planets.{is_planet}
use Rattle.planets.specs.Answers.{apparition_number, stage_kind_number, is_back, stage_fields}
use Rattle.planets.specs.Stages.{in_room, stages_of}
use Rattle.planets.specs.Rows.{kind_of, apparition_of, signed_degrees, stage_of, Small}
use Rattle.planets.specs.Jobs.{stages_at, shown_stages}
use Rattle.planets.proofs.Cases.{each_planet}

kind_again : (k : StageKind) → kind_of (stage_kind_number k) ≡ k
kind_again StageKind.Unused = refl
kind_again StageKind.Hidden = refl
kind_again StageKind.Direct = refl
kind_again StageKind.Station = refl
kind_again StageKind.Retrograde = refl

apparition_again : (a : Apparition) → apparition_of (apparition_number a) ≡ a
apparition_again Apparition.Neither = refl
apparition_again Apparition.Morning = refl
apparition_again Apparition.Evening = refl

degrees_again : (d : ℤ) → signed_degrees (cond (is_back d) 1 0) (nat_abs d) ≡ d
degrees_again (pos n) = refl
degrees_again (negsuc n) = refl

stage_again : (s : Stage) → stage_of (stage_fields s) ≡ s
unfolding stage_of
stage_again s = rw (kind_again s.kind, apparition_again s.apparition, degrees_again s.degrees)

pub stages_again : (l : List Stage) → map stage_of (map stage_fields l) ≡ l
stages_again [] = refl
stages_again (s ∷ l) = rw (stage_again s, stages_again l)

abbrev all_small : List (List ℕ) → Bool
all_small [] = true
all_small (row ∷ rows) = ltb (get_or row 3 0) 4294967296 && all_small rows

each_small : (rows : List (List ℕ)) → T (all_small rows) → Small rows
each_small [] t i h = absurd (omega (arith, h))
each_small (row ∷ rows) t zero h = ltb→lt (get_or row 3 0) 4294967296 (both_left (ltb (get_or row 3 0) 4294967296) (all_small rows) t)
each_small (row ∷ rows) t (suc i) h = each_small rows (both_right (ltb (get_or row 3 0) 4294967296) (all_small rows) t) i (omega (arith, h))

all_small_lem : (p : ℕ) → T (all_small (map stage_fields (shown_stages p).stages))
unfolding stages_at
all_small_lem p =
    ⊎_elim
    (λ (h : T (is_planet p)). rw (T_true (is_planet p) h) (each_planet (λ q. T (all_small (map stage_fields (in_room (stages_of q))))) tt tt tt tt tt p h))
    (λ (h : ¬ (T (is_planet p))). rw (T_false (is_planet p) h) tt)
    (decide (is_planet p))

pub small_rows : (p : ℕ) → Small (map stage_fields (shown_stages p).stages)
small_rows p = each_small (map stage_fields (shown_stages p).stages) (all_small_lem p)
