use borrow.Author.Tests.{eq-eqb, ne_eqb}
use Rattle.volume_text.specs.Lines.{span_fed}
use Rattle.volume_text.proofs.reader.SpanReader.feed.Goals as goal

pub returns-in-Some : goal.returns-in-Some
unfolding span_fed
returns-in-Some c = rw (c.in-Some.is, c.feed.ensures)

pub returns-then-byte-eq32 : goal.returns-then-byte-eq32
unfolding span_fed
returns-then-byte-eq32 c = rw (c.in_default.is, eq-eqb c.args.byte 32 c.if-byte-eq32.true, c.new.ensures)

pub returns : goal.returns
unfolding span_fed
returns c = rw (c.in_default.is, ne_eqb c.args.byte 32 c.if-byte-eq32.false, c.feed-2.ensures)
