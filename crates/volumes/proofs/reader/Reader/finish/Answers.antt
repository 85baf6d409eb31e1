use borrow.Author.Tests.{eq-eqb, ne_eqb}
use Rattle.volumes.specs.Stream.{finished}
use Rattle.volumes.proofs.reader.Reader.finish.Goals as goal

pub returns-then-rest-ne0 : goal.returns-then-rest-ne0
unfolding finished
returns-then-rest-ne0 c = rw (ne_eqb c.args.rest 0 c.if-rest-ne0.true)

pub returns-in-Empty : goal.returns-in-Empty
unfolding finished
returns-in-Empty c = rw (eq-eqb c.args.rest 0 c.if-rest-ne0.false, c.in-Empty.is)

pub returns-in-Right : goal.returns-in-Right
unfolding finished
returns-in-Right c = rw (eq-eqb c.args.rest 0 c.if-rest-ne0.false, c.in-Right.is)

pub returns-in-Wrong : goal.returns-in-Wrong
unfolding finished
returns-in-Wrong c = rw (eq-eqb c.args.rest 0 c.if-rest-ne0.false, c.in-Wrong.is)
