use mathlib.Core.Path.{◌≡◌, sym, ◌∙◌}
use mathlib.Core.Bool.{true}
use Rattle.volumes.specs.Volume.{is_run}
use Rattle.volumes.specs.Stream.{held}
use Rattle.volumes.proofs.reader.held.Goals as goal

pub returns-then-same_bytes : goal.returns-then-same_bytes
unfolding held
returns-then-same_bytes c =
    let run : (let x = c.args in is_run x.first x.year ≡ true) = sym c.is_run.ensures ∙ c.if-is_run.true in
    rw (run, ← c.block-own.ensures, ← c.same_bytes.ensures, c.if-same_bytes.true)

pub returns-else-same_bytes : goal.returns-else-same_bytes
unfolding held
returns-else-same_bytes c =
    let run : (let x = c.args in is_run x.first x.year ≡ true) = sym c.is_run.ensures ∙ c.if-is_run.true in
    rw (run, ← c.block-own.ensures, ← c.same_bytes.ensures, c.if-same_bytes.false)

pub returns-else-is_run : goal.returns-else-is_run
unfolding held
returns-else-is_run c = rw (← c.is_run.ensures, c.if-is_run.false)
