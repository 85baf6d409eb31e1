-- A number's digits: those of its tenth, and the last one.
use mathlib.Core.Path.{ap}
use mathlib.Core.List.{[], ◌∷◌}
use native.Mathlib.Omega.{arith}
use lib.ListN.{length, length-append}
use Prim.Native.Nat.{◌+◌, ◌/◌, ◌%◌}
use Rattle.year_text.specs.Decimal.{decimal}
use Rattle.year_text.proofs.Decimals.{one_digit, last_digit}
use Rattle.writing.proofs.Writings.{and_then}
use Rattle.year_text.proofs.writer.+put_decimal.Goals as goal

pub put-requires : goal.put-requires
put-requires t c = omega (arith, ap length (one_digit c.args.n c.if-n-lt10.true), c.requires)

pub returns-then-n-lt10 : goal.returns-then-n-lt10
returns-then-n-lt10 t c = rw (one_digit c.args.n c.if-n-lt10.true) c.put.ensures

pub put_decimal-last-requires : goal.put_decimal-last-requires
put_decimal-last-requires t c =
    (omega arith, omega (arith, c.requires, ap length (last_digit c.args.n c.if-n-lt10.false c.ranges.n.fits), length-append (decimal (c.args.n / 10)) ((48 + c.args.n % 10) ∷ [])))

pub put-requires-2 : goal.put-requires-2
put-requires-2 t c =
    let w = c.put_decimal-last.ensures in
    omega (arith, c.requires, w.long, w.next, ap length (last_digit c.args.n c.if-n-lt10.false c.ranges.n.fits), length-append (decimal (c.args.n / 10)) ((48 + c.args.n % 10) ∷ []))

pub returns : goal.returns
returns t c = rw (last_digit c.args.n c.if-n-lt10.false c.ranges.n.fits) (and_then c.put_decimal-last.ensures c.put-2.ensures)
