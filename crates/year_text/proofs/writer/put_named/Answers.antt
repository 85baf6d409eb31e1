use native.Mathlib.Omega.{arith}
use Rattle.year_text.proofs.Decimals.{at_most_20}
use Rattle.writing.proofs.Writings.{and_then}
use Rattle.year_text.proofs.writer.put_named.Goals as goal

pub put_decimal-requires : goal.put_decimal-requires
put_decimal-requires c =
    omega (arith, c.put_text-after.ensures.long, c.put_text-after.ensures.next, at_most_20 c.args.n)

pub returns : goal.returns
returns c = and_then c.put_text-after.ensures c.put_decimal.ensures
