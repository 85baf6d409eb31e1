-- The day of the sixty (02 §3) goes from 1 to 60 and round again.
-- Assumes nothing.
use mathlib.Core.Path.{◌≡◌, refl}
use mathlib.Core.Logic.{◌≢◌}
use Prim.Native.Nat.{ℕ, suc, ◌≤◌}
use native.Mathlib.Omega.{arith}
use native.Mathlib.Nat.{mod-lt}
use Rattle.lunisolar.specs.Sixty.{sixty, sexagenary_of}

-- JIAZI, DAY 0, IS 1
pub jiazi : sexagenary_of 0 ≡ 1
jiazi = refl

-- IT IS 1 TO 60
pub sexagenary_low : (d : ℕ) → 1 ≤ sexagenary_of d
sexagenary_low d = omega arith

pub sexagenary_high : (d : ℕ) → sexagenary_of d ≤ sixty
sexagenary_high d = omega (arith, mod-lt d {m = sixty} (omega arith))

-- THE NEXT DAY HAS THE NEXT NUMBER, AND THE DAY AFTER THE SIXTIETH IS 1
pub sexagenary_next : (d : ℕ) → sexagenary_of d ≢ sixty → sexagenary_of (suc d) ≡ suc (sexagenary_of d)
sexagenary_next d h = omega (arith, mod-lt d {m = sixty} (omega arith))

pub sexagenary_round : (d : ℕ) → sexagenary_of d ≡ sixty → sexagenary_of (suc d) ≡ 1
sexagenary_round d h = omega (arith, mod-lt d {m = sixty} (omega arith))
