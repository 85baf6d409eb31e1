use mathlib.Core.Path.{refl}
use Rattle.reckoning.specs.Search.{list_from}
use Rattle.reckoning.specs.Chapters.{chapter_before}
use Rattle.units.specs.Chapter.{chapter_table}
use Rattle.units.proofs.entries.chapter_table.Goals as goal

pub returns : goal.returns
unfolding chapter_table list_from chapter_before
returns c = refl
