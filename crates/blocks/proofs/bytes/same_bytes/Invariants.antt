use Rattle.std.proofs.Common.{◌≡◌, length, take}
use Rattle.blocks.specs.Bytes.{same}
use Rattle.blocks.proofs.bytes.same_bytes.Given as goal

abbrev pub invariant-loop-x : goal.invariant-loop-x
invariant-loop-x l = l.equal ≡ same (take (length l.yielded) l.a) (take (length l.yielded) l.b)
