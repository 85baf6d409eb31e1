use native.Mathlib.Omega.{arith}
use Prim.Native.Nat.{◌*◌}
use mathlib.Core.Path.{◌≡◌}
use mir.Syntax.{w64}
use mir.Val.{to_z, of_z}
use native.Mathlib.Nat.{zero-add}
use Rattle.units.specs.Xinghe.{P}
use Rattle.anomaly.specs.Corrections.{corrected_at}
use Rattle.anomaly.proofs.Fair.{size_most, not_before}
use borrow.Author.Rules.{rules}
use Rattle.anomaly.proofs.corrected_at.Goals as goal

pub moved_by-moved-requires : goal.moved_by-moved-requires
moved_by-moved-requires c =
    let h = c.args.halves in
    rw (c.carry-mean.ensures, zero-add, c.correction_at-correction.ensures)
    (record { day_bound = omega arith; remainder = omega arith; size = omega (arith, size_most (h * P)); origin = λ e. omega (arith, not_before h) })

pub signed_of-signed-requires : goal.signed_of-signed-requires
signed_of-signed-requires c =
    let h = c.args.halves in
    rw c.correction_at-correction.ensures (omega (arith, size_most (h * P)))

pub returns : goal.returns
unfolding corrected_at
returns c =
    let held : to_z w64 (of_z w64 c.signed_of-signed.result) ≡ c.signed_of-signed.result = search rules in
    rw (held, c.signed_of-signed.ensures, c.moved_by-moved.ensures, c.carry-mean.ensures, zero-add, c.correction_at-correction.ensures, c.anomaly_at-anomaly.ensures)
