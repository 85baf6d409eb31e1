use mathlib.Core.Path.{◌≡◌, sym, ◌∙◌}
use mathlib.Core.Bool.{true}
use Prim.Native.Nat.{◌-◌}
use Rattle.blocks.specs.Bytes.{same}
use Rattle.blocks.proofs.Same.{same_eq}
use Rattle.volumes.specs.Volume.{block_at}
use Rattle.mending.proofs.mend_block.Goals as goal

pub returns-then-same_bytes : goal.returns-then-same_bytes
returns-then-same_bytes c =
    let x = c.args in
    let own = block_at x.first (x.year - x.first) in
    let e : same x.part.now own ≡ true = rw c.block-own.ensures at (sym c.same_bytes.ensures ∙ c.if-same_bytes.true) in
    (sym e, same_eq x.part.now own (rw e tt))
