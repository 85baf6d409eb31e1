use native.Mathlib.Omega.{arith}
use borrow.Author.Tests.{le-leb, lt-leb}
use Prim.Native.Nat.{◌+◌}
use Rattle.units.specs.Xinghe.{P, M}
use Rattle.node.specs.Passages.{next_passage}
use Rattle.node.proofs.passages.Passage.next.Goals as goal

pub returns-then-sum : goal.returns-then-sum
unfolding next_passage
returns-then-sum c = rw (le-leb M (c.args.self.since + P) (omega (arith, c.if-sum.true)))

pub returns-else-sum : goal.returns-else-sum
unfolding next_passage
returns-else-sum c = rw (lt-leb M (c.args.self.since + P) (omega (arith, c.if-sum.false)))
