use mathlib.Core.Path.{◌≡◌, sym, ap, ◌∙◌}
use borrow.Author.Tests.{eq-eqb, ne_eqb}
use Rattle.year_text.specs.Lines.{fed, is_settled, stepped}
use Rattle.year_text.proofs.reader.Reader.step.Goals as goal

pub returns-then-byte-eq10 : goal.returns-then-byte-eq10
unfolding stepped
returns-then-byte-eq10 c = rw (eq-eqb c.args.byte 10 c.if-byte-eq10.true, c.year.ensures)

pub returns-then-settled : goal.returns-then-settled
unfolding stepped
returns-then-settled c =
    let test : (let x = c.args in c.settled.result ≡ is_settled (fed x.self x.byte)) = c.settled.ensures ∙ ap is_settled c.feed-next.ensures in
    let x = c.args in
    rw (ne_eqb x.byte 10 c.if-byte-eq10.false, sym test ∙ c.if-settled.true, c.year-then-settled.ensures, c.feed-next.ensures)

pub returns : goal.returns
unfolding stepped
returns c =
    let test : (let x = c.args in c.settled.result ≡ is_settled (fed x.self x.byte)) = c.settled.ensures ∙ ap is_settled c.feed-next.ensures in
    let x = c.args in
    rw (ne_eqb x.byte 10 c.if-byte-eq10.false, sym test ∙ c.if-settled.false, c.feed-next.ensures)
