use native.Mathlib.Omega.{arith}
use borrow.Author.Tests.{le-leb, lt-leb}
use Prim.Native.Nat.{◌+◌, ◌-◌}
use Rattle.units.specs.Xinghe.{P, T}
use Rattle.anomaly.specs.Steps.{next_into}
use Rattle.anomaly.proofs.next_into.Goals as goal

pub returns-then-sum : goal.returns-then-sum
unfolding next_into
returns-then-sum c = rw (le-leb T (c.args.into + P - T) (omega (arith, c.if-sum.true))) (omega arith)

pub returns-else-sum : goal.returns-else-sum
unfolding next_into
returns-else-sum c = rw (lt-leb T (c.args.into + P - T) (omega (arith, c.if-sum.false))) (omega arith)
