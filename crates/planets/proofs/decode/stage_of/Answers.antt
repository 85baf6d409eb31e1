use mathlib.Core.Path.{◌≡◌}
use mir.Syntax.{w64}
use mir.Val.{to_z, of_z}
use Rattle.planets.specs.Rows.{stage_of}
use borrow.Author.Rules.{rules}
use Rattle.planets.proofs.decode.stage_of.Goals as goal

pub returns : goal.returns
unfolding stage_of
returns c =
    let held : to_z w64 (of_z w64 c.degrees_of-degrees.result) ≡ c.degrees_of-degrees.result = search rules in
    rw (held, c.apparition_of-apparition.ensures, c.kind_of-kind.ensures, c.degrees_of-degrees.ensures)
