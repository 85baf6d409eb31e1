-- A walk over a list of signed counts (01, "Walks"): its last row, the sum of the answered counts in whole numbers, and how many were answered.
-- Assumes nothing.
use Rattle.std.specs.Prelude.{Result, List, ℕ, ℤ, pos}
use Rattle.refusal.specs.declared.Refusal.{Refusal}
use Rattle.walking.specs.Walk as any-walk
use Rattle.walking.specs.Fields.{walked_by}
use Rattle.walking.specs.declared.Walked.{Walked}
use Rattle.calendar.specs.Rows.{field_count, row_fields}
use Rattle.calendar.specs.Answers.{zero_row}
use Rattle.calendar.specs.Carries.{months}
use Rattle.calendar.specs.declared.MonthRow.{MonthRow}

-- carry by carry: each is handed the row that the last answered one gave, at first the row that the walk starts from
abbrev pub walked : MonthRow → List ℤ → Walked MonthRow
walked r cs = any-walk.walked months r cs

-- a walk from a row that is not genuine is refused under 4
abbrev pub walk_answer : MonthRow → List ℤ → Result (Walked MonthRow) Refusal
walk_answer r cs = any-walk.walk_answer months r cs

-- a walk from a row handed in as numbers: from the row that they are, and refused under 4 where they are no genuine row's
abbrev pub walk_answer_fields : List ℕ → List ℤ → Result (Walked MonthRow) Refusal
walk_answer_fields f cs = walked_by months field_count row_fields f cs

abbrev pub zero_walk : Walked MonthRow
zero_walk = record { row = zero_row; sum = pos 0; answered = 0 }
