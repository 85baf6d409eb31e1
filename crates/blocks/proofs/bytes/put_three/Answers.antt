use native.Mathlib.Omega.{arith}
use Rattle.writing.proofs.Writings.{and_then, and_at, wrote_to}
use Rattle.blocks.proofs.bytes.put_three.Goals as goal

pub returns : goal.returns
returns c =
    wrote_to (omega arith)
    (and_at (and_then c.put_u32.ensures c.put_u32-2.ensures) c.put_u32-3.ensures (omega arith))
