use Rattle.writing.proofs.Writings.{and_then}
use Rattle.blocks.specs.Block.{head_bytes}
use Rattle.blocks.proofs.put_head.Goals as goal

pub returns : goal.returns
unfolding head_bytes
returns c = and_then c.put_u32.ensures c.put_four.ensures
