use mathlib.Core.Path.{sym}
use Rattle.units.proofs.Table.{four_listed, last_two}
use Rattle.units.proofs.entries.four_from.Goals as goal

pub returns-then-t-eq140 : goal.returns-then-t-eq140
returns-then-t-eq140 c = rw (c.requires.0, c.if-t-eq140.true) (sym last_two)

pub returns : goal.returns
returns c =
    rw c.requires.0 (sym (four_listed c.args.t))
