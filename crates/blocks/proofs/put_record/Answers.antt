use native.Mathlib.Omega.{arith}
use Rattle.writing.proofs.Writings.{and_then, wrote_to}
use Rattle.walking.proofs.Bits.{as_number}
use Rattle.blocks.specs.Block.{record_bytes}
use Rattle.blocks.proofs.put_record.Goals as goal

pub returns : goal.returns
unfolding record_bytes
returns c =
    let row = c.args.row in
    rw (← as_number row.leap) (wrote_to (omega arith) (and_then c.put_three.ensures c.put_four.ensures))
