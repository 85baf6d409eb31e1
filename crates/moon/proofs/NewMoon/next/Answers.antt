use mathlib.Core.Path.{sym}
use native.Mathlib.Omega.{arith}
use Prim.Native.Nat.{◌+◌, ◌*◌, ◌≤◌}
use Rattle.units.specs.Xinghe.{N, P}
use Rattle.moon.proofs.Addition.{length_fits, by_length}
use Rattle.moon.proofs.NewMoon.next.Goals as goal

-- the month's length, and that there is so much to take off
fits : (a : goal.After-struct_known-1) → (let r = a.args.self.remainder in (29 ≤ a.length_of-length.result) × (a.length_of-length.result ≤ 30) × (a.length_of-length.result * N ≤ r.parts + P))
fits a = rw a.length_of-length.ensures (length_fits a.args.self.remainder)

pub overflow_mul-parts : goal.overflow_mul-parts
overflow_mul-parts c = omega (arith, fits c)

pub overflow_sub-parts : goal.overflow_sub-parts
overflow_sub-parts c = omega (arith, fits c)

pub overflow_add-result : goal.overflow_add-result
overflow_add-result c = omega (arith, fits c.before)

pub returns : goal.returns
returns c =
    rw c.length_of-length.ensures (sym (by_length c.args.self c.requires.1))
