-- The distances of `nodes` and of the row are one, at every month.
-- Assumes nothing.
use mathlib.Core.Path.{◌≡◌, refl}
use Prim.Native.Nat.{ℕ, ◌*◌, ◌/◌, ◌%◌}
use native.Mathlib.Omega.{arith}
use Rattle.mean_calendar.specs.Months.{month_of}
use Rattle.zhengguang.specs.Nodes.{since_node, distance_of, nodes_of}
use Rattle.zhengguang.specs.Rows.{row_of}

-- AT THE NEW MOON THE ROW HAS THE DISTANCE THAT `nodes` GIVES, in whole parts
pub row_distance : (m : ℕ) → ((nodes_of m).new.degrees ≡ (row_of m).degrees) × ((nodes_of m).new.remainder ≡ (row_of m).residue) × ((nodes_of m).new.half ≡ 0)
unfolding nodes_of distance_of row_of month_of
row_distance m =
    let x : ℕ = since_node m in
    let whole : 2 * x / 2 ≡ x = omega arith in
    let even : 2 * x % 2 ≡ 0 = omega arith in
    rw (whole, even) (refl, refl, refl)

-- AT THE FULL MOON A HALF IS LEFT IN EVERY MONTH, since a month has an odd number of parts
pub full_half : (m : ℕ) → (nodes_of m).full.half ≡ 1
unfolding nodes_of distance_of
full_half m = omega arith
