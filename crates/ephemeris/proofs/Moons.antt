-- A month's full moon is its third phase: that of the nodes and of the corrections, with halves, is that of the phases, with quarters.
-- Assumes nothing.
use mathlib.Core.Path.{◌≡◌}
use Prim.Native.Nat.{ℕ, ◌+◌, ◌*◌, ◌/◌, ◌%◌}
use native.Mathlib.Omega.{arith}
use Rattle.units.specs.Xinghe.{N, P}
use Rattle.moon.specs.Phases.{phase_at, phases_of}

pub full_is_third : (m : ℕ) → ((phases_of m).full.day ≡ (2 * m + 1) * P / 2 / N) × ((phases_of m).full.remainder.parts ≡ (2 * m + 1) * P / 2 % N) × ((phases_of m).full.quarters ≡ 2 * ((2 * m + 1) * P % 2))
unfolding phases_of phase_at
full_is_third m =
    let e : (4 * m + 2) * P / 4 ≡ (2 * m + 1) * P / 2 = omega arith in
    rw e (omega arith)
