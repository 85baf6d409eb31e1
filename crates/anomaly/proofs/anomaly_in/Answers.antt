use native.Mathlib.Omega.{arith}
use mathlib.Core.Path.{◌≡◌, refl}
use native.Mathlib.Nat.{zero-add}
use Prim.Native.Nat.{◌*◌, ◌/◌, ◌%◌}
use Rattle.units.specs.Xinghe.{T}
use Rattle.anomaly.specs.Corrections.{anomaly_at}
use Rattle.anomaly.proofs.anomaly_in.Goals as goal

pub returns : goal.returns
unfolding anomaly_at
returns c =
    let x = c.args.into in
    let whole : 2 * x % (2 * T) / 2 ≡ x = omega (arith, c.requires) in
    let half : 2 * x % (2 * T) % 2 ≡ 0 = omega (arith, c.requires) in
    rw (c.carry-carried.ensures, zero-add, whole, half) refl
