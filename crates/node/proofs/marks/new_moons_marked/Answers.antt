use mathlib.Core.Path.{sym}
use Rattle.node.proofs.Counted.{new_counted}
use Rattle.node.proofs.marks.new_moons_marked.Goals as goal

-- src/marks.rt:9:1
pub returns : goal.returns
returns c = sym (new_counted c.args.lunation)
