use mathlib.Core.Path.{sym}
use Rattle.node.proofs.Counted.{full_counted}
use Rattle.node.proofs.marks.full_moons_marked.Goals as goal

-- src/marks.rt:17:1
pub returns : goal.returns
returns c = sym (full_counted c.args.lunation c.requires)
