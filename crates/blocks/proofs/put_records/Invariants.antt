use Rattle.std.specs.Result.{result_unwrap_or}
use mathlib.Core.Path.{◌≡◌}
use Prim.Native.Nat.{◌+◌, ◌*◌}
use Rattle.writing.specs.Written.{Wrote}
use Rattle.calendar.specs.Answers.{zero_head}
use Rattle.calendar.specs.Elements.{elements_of}
use Rattle.blocks.specs.Block.{records}
use Rattle.blocks.proofs.put_records.Given as goal

abbrev pub invariant-loop-place : goal.invariant-loop-place
invariant-loop-place l =
    Wrote l.initial.out l.out 8 (8 + 16 * l.place) (records l.year l.place) × (l.elements ≡ elements_of ((result_unwrap_or l.head zero_head).before + l.place))
