use Rattle.units.proofs.Table.{among_four}
use Rattle.units.proofs.entries.entry.Goals as goal

pub returns : goal.returns
returns c = rw c.four_years-four.ensures (among_four c.args.j)
