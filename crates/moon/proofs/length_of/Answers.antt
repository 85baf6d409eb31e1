use native.Mathlib.Omega.{arith}
use borrow.Author.Tests.{le-leb, lt-leb}
use Rattle.units.specs.Xinghe.{long_from}
use Rattle.moon.specs.NewMoons.{length_of}
use Rattle.moon.proofs.length_of.Goals as goal

pub returns-then-remainder-ge-LONG_FROM : goal.returns-then-remainder-ge-LONG_FROM
unfolding length_of
returns-then-remainder-ge-LONG_FROM c = rw (le-leb long_from c.args.remainder.parts (omega (arith, c.if-remainder-ge-LONG_FROM.true)))

pub returns-else-remainder-ge-LONG_FROM : goal.returns-else-remainder-ge-LONG_FROM
unfolding length_of
returns-else-remainder-ge-LONG_FROM c = rw (lt-leb long_from c.args.remainder.parts (omega (arith, c.if-remainder-ge-LONG_FROM.false)))
