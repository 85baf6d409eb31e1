use native.Mathlib.Omega.{arith}
use mathlib.Core.Path.{◌≡◌, refl}
use Prim.Native.Nat.{◌+◌, ◌*◌}
use lib.ListN.{get_or}
use Rattle.blocks.specs.Check.{weighted}
use Rattle.blocks.proofs.Sums.{sum_more}
use Rattle.blocks.proofs.check.weigh.Goals as goal

pub loop-byte-init : goal.loop-byte-init
unfolding weighted
loop-byte-init c = (refl, omega arith, refl)

pub loop-byte-preserved : goal.loop-byte-preserved
loop-byte-preserved c =
    let l = c.loop-byte in
    let i = l.byte-index in
    let x = c.args in
    let own : c.term-own.result ≡ (i + 1) * get_or x.bytes.now i 0 = rw (← l.invariant.2) c.term-own.ensures in
    (omega (arith, sum_more x.past x.bytes.now i (omega arith), own, c.term-more.ensures), omega arith, omega arith)
