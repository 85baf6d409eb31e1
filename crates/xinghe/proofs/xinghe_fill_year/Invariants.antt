use Rattle.std.specs.Result.{result_unwrap_or}
use mathlib.Core.Path.{◌≡◌}
use Prim.Native.Nat.{◌+◌, ◌-◌, ◌*◌, ◌≤◌}
use lib.ListN.{length}
use Rattle.calendar.specs.Rows.{field_count}
use Rattle.calendar.specs.Elements.{elements_of}
use Rattle.calendar.specs.Answers.{zero_head}
use Rattle.xinghe.specs.Years.{front_fields}
use Rattle.xinghe.proofs.xinghe_fill_year.Given as goal

-- so many rows are written, and the elements are those of the next month's new moon
abbrev pub invariant-loop-i : goal.invariant-loop-i
invariant-loop-i l =
    (field_count * l.n ≤ length l.initial.out) × (l.out ≡ front_fields l.year l.i l.initial.out) × (l.elements ≡ elements_of ((result_unwrap_or l.head zero_head).before + l.i))
