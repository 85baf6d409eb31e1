-- The rows at the eras' heads, by the treatise's table, and the row at the node.
-- Assumes nothing.
use Rattle.std.specs.Prelude.{Ok}
use mathlib.Core.Path.{◌≡◌, refl, ap, ◌∙◌}
use Prim.Native.Nat.{ℕ, ◌+◌, ◌*◌, ◌<◌}
use native.Mathlib.Omega.{arith}
use Rattle.reckoning.specs.Rule.{month_count}
use Rattle.reckoning.proofs.Leaps.{year_low, year_ends}
use Rattle.lunisolar.proofs.Laws.{lunation_at_lem}
use Rattle.mean_calendar.specs.Months.{month_of}
use Rattle.units.specs.Xinghe.{xinghe, rule, era_years, era_months, round_months}
use Rattle.units.proofs.Sound.{laws}
use Rattle.node.specs.Eclipses.{distance_of}
use Rattle.node.specs.Sides.{head_in}
use Rattle.node.specs.declared.Side.{Side}
use Rattle.node.proofs.Heads.{era_heads, each_era}
use Rattle.node.proofs.Steps.{month_0, era_side, at_node_alone}
use Rattle.calendar.specs.Rows.{row_of, row_for, month_row}

-- an era's head is the first month of its first year
pub era_row : (e : ℕ) → e < 6 → month_row (e * era_years + 1) 0 ≡ Ok (row_of (e * era_months))
unfolding row_for
era_row e h =
    let y : ℕ = e * era_years in
    let some : 0 < month_count rule y = omega (arith, year_ends rule laws y, year_low rule laws y) in
    let at : rule.before y + 0 ≡ e * era_months = omega (arith, era_heads e) in
    ap row_for (lunation_at_lem xinghe y 0 (omega arith) some) ∙ rw at refl

-- AT AN ERA'S HEAD THE ROW HAS THE TABLE'S DISTANCE, in degrees and remainder
pub era_distance : (e : ℕ) → e < 6 → ((row_of (e * era_months)).degrees ≡ (head_in e).degrees) × ((row_of (e * era_months)).residue.parts ≡ (head_in e).remainder)
unfolding row_of distance_of month_of
era_distance =
    each_era (λ (e : ℕ). ((row_of (e * era_months)).degrees ≡ (head_in e).degrees) × ((row_of (e * era_months)).residue.parts ≡ (head_in e).remainder))
    (refl, refl) (refl, refl) (refl, refl) (refl, refl) (refl, refl) (refl, refl)

-- AND THE TABLE'S SIDE, but month 0, which stands at the node
pub era_row_side : (e : ℕ) → e < 6 → 0 < e → (row_of (e * era_months)).side ≡ (head_in e).side
unfolding row_of month_of
era_row_side e a b = era_side e a b

pub first_side : (row_of 0).side ≡ Side.AtNode
unfolding row_of month_of
first_side = month_0

-- MONTH 0 ALONE IS AT THE NODE
pub first_alone : (m : ℕ) → m < round_months → (row_of m).side ≡ Side.AtNode → m ≡ 0
unfolding row_of month_of
first_alone m h e = at_node_alone m h e
