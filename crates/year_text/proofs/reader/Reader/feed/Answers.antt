use native.Mathlib.Omega.{arith}
use Rattle.year_text.specs.Lines.{fed}
use Rattle.year_text.proofs.Readings.{digit, too_low, too_high}
use Rattle.year_text.proofs.reader.Reader.feed.Goals as goal

pub returns-then-byte-lt48 : goal.returns-then-byte-lt48
unfolding fed
returns-then-byte-lt48 c =
    rw (c.in-Some.is, too_low c.args.byte (omega (arith, c.if-byte-lt48.true))) c.refused.ensures

pub returns-then-byte-gt57 : goal.returns-then-byte-gt57
unfolding fed
returns-then-byte-gt57 c =
    rw (c.in-Some.is, too_high c.args.byte (omega (arith, c.if-byte-gt57.true))) c.refused-then-byte-gt57.ensures

pub returns : goal.returns
unfolding fed
returns c =
    rw (c.in-Some.is, digit c.args.byte (omega arith) (omega arith), c.longer.ensures, c.from.ensures)

pub returns-in_default : goal.returns-in_default
unfolding fed
returns-in_default c = rw c.in_default.is
