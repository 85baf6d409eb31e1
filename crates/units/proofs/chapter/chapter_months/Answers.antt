use mathlib.Core.Path.{sym}
use Rattle.units.proofs.Table.{by_chapters}
use Rattle.units.proofs.chapter.chapter_months.Goals as goal

pub returns : goal.returns
returns c = rw c.entry.ensures (sym (by_chapters c.args.y))
