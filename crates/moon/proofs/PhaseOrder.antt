-- The phases agree with the new moons, and keep their order.
-- Assumes nothing.
use mathlib.Core.Path.{◌≡◌}
use Prim.Native.Nat.{ℕ, suc, ◌+◌, ◌*◌, ◌≤◌, ◌<◌}
use native.Mathlib.Omega.{arith}
use Rattle.reckoning.specs.Means.{new_moon, new_moon_rest}
use Rattle.units.specs.Xinghe.{N, P}
use Rattle.moon.specs.NewMoons.{new_moon_of}
use Rattle.moon.specs.Phases.{phase_at, phases_of}
use Rattle.moon.specs.declared.phases.Phase.{Phase}

-- the instant of a phase, in quarters of a part since the origin
abbrev pub instant : Phase → ℕ
instant x = 4 * (x.day * N + x.remainder.parts) + x.quarters

-- the phase q quarter months after the origin lies at q·P quarters, its remainder and quarters in range
pub phase_instant : (q : ℕ) → (instant (phase_at q) ≡ q * P) × ((phase_at q).remainder.parts < N) × ((phase_at q).quarters < 4)
unfolding phase_at
phase_instant q = omega arith

-- THE FIRST PHASE IS THE NEW MOON, with no quarters
pub first_phase : (m : ℕ) → ((phases_of m).new.day ≡ (new_moon_of m).day) × ((phases_of m).new.remainder.parts ≡ (new_moon_of m).remainder.parts) × ((phases_of m).new.quarters ≡ 0)
unfolding phases_of phase_at new_moon_of new_moon new_moon_rest
first_phase m = omega arith

-- NO PHASE OF A MONTH LIES BEFORE ITS NEW MOON OR AFTER THE NEXT
pub phase_order : (m j : ℕ) → j < 4 → (instant (phase_at (4 * m)) ≤ instant (phase_at (4 * m + j))) × (instant (phase_at (4 * m + j)) < instant (phase_at (4 * suc m)))
phase_order m j h = omega (arith, (phase_instant (4 * m)).0, (phase_instant (4 * m + j)).0, (phase_instant (4 * suc m)).0)
