-- The points of a cut: the first is the solstice, and each lies where 01 says, nothing lost.
-- Assumes nothing.
use mathlib.Core.Path.{◌≡◌, ◌∙◌, ap}
use Prim.Native.Nat.{ℕ, ◌+◌, ◌*◌, ◌/◌, ◌%◌, ◌<◌}
use native.Mathlib.Omega.{arith}
use native.Mathlib.Nat.{div-add-mod', mod-lt}
use Rattle.units.specs.Xinghe.{P, D}
use Rattle.sun.specs.Solstices.{solstice_of}
use Rattle.sun.specs.Points.{point_of}
use Rattle.sun.specs.declared.Point.{Point}

-- the instant of a point, in parts of 1/c over D since the origin
abbrev pub instant : ℕ → Point → ℕ
instant c x = (x.day * D + x.remainder.parts) * c + x.rest

-- THE REST IS KEPT EXACTLY: the instant is the solstice's y·P, times c, and i·P more
pub point_instant : (y c i : ℕ) → 0 < c → (instant c (point_of y c i) ≡ y * P * c + i * P) × ((point_of y c i).rest < c) × ((point_of y c i).remainder.parts < D)
unfolding point_of
point_instant y c i h =
    let t : ℕ = (y * c + i) * P in
    let q : t / c / D * D + t / c % D ≡ t / c = omega arith in
    (ap (λ (x : ℕ). x * c + t % c) q ∙ omega (arith, div-add-mod' t c), mod-lt t h, omega arith)

-- the first point is the solstice
pub first_point : (y : ℕ) → ((point_of y 24 0).day ≡ (solstice_of y).day) × ((point_of y 24 0).remainder.parts ≡ (solstice_of y).remainder.parts) × ((point_of y 24 0).rest ≡ 0)
unfolding point_of solstice_of
first_point y = omega arith
