use native.Mathlib.Omega.{arith}
use Rattle.year_text.proofs.Decimals.{at_most_20}
use Rattle.year_text.proofs.writer.put_field.Goals as goal

pub put_decimal-after-requires : goal.put_decimal-after-requires
put_decimal-after-requires c =
    omega (arith, at_most_20 c.args.n)

pub put-requires : goal.put-requires
put-requires c =
    omega (arith, c.put_decimal-after.ensures.long, c.put_decimal-after.ensures.next, at_most_20 c.args.n)
