use mathlib.Core.Path.{◌∙◌, sym}
use Rattle.planets.proofs.Cases.{is_morning, is_evening, is_neither}
use Rattle.planets.proofs.synodic.kind_from.Goals as goal

pub returns-then-takes_half : goal.returns-then-takes_half
returns-then-takes_half c = let a = c.args in (is_morning a.k.period a.k.halved a.remaining (sym c.takes_half.ensures ∙ c.if-takes_half.true)).1

pub returns-then-k : goal.returns-then-k
returns-then-k c = let a = c.args in is_evening a.k.period a.k.halved a.remaining (sym c.takes_half.ensures ∙ c.if-takes_half.false) c.if-k.true

pub returns : goal.returns
returns c = let a = c.args in is_neither a.k.period a.k.halved a.remaining c.if-k.false
