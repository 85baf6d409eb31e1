-- Rows carried by signed counts of months, and walks (01, "Walks"): those of any calendar of a round, at the Zhengguang.
-- Assumes nothing.
use Rattle.std.specs.Prelude.{Result, Bool, List, ℕ, ℤ, pos}
use Rattle.refusal.specs.declared.Refusal.{Refusal}
use Rattle.walking.specs.Walk as any-walk
use Rattle.walking.specs.Walk.{Calendar, carry}
use Rattle.walking.specs.Fields.{same_fields, genuine_by, carried_by, walked_by}
use Rattle.zhengguang.specs.Zhengguang.{round_months}
use Rattle.zhengguang.specs.Rows.{field_count, row_fields, row_of}
use Rattle.zhengguang.specs.Answers.{zero_row}
use Rattle.zhengguang.specs.declared.ZhengguangRow.{ZhengguangRow}
use Rattle.walking.specs.declared.Walked.{Walked}

-- the months of the round; two rows are the same where they are so in every field
abbrev pub rows : Calendar ZhengguangRow
rows = record { size = round_months; row = row_of; month = λ r. r.mean.lunation; same = λ r s. same_fields field_count (row_fields r) (row_fields s) }

-- the carry of a row by a count
abbrev pub carried : ZhengguangRow → ℤ → Result ZhengguangRow Refusal
carried row c = carry rows row c

-- a row handed in as numbers: whether it is genuine, and its carry by a count
abbrev pub genuine_fields : List ℕ → Bool
genuine_fields f = genuine_by rows field_count row_fields f

abbrev pub carried_fields : List ℕ → ℤ → Result ZhengguangRow Refusal
carried_fields f c = carried_by rows field_count row_fields f c

-- a walk, carry by carry: its last row, the sum of the answered counts in whole numbers, and how many were answered
abbrev pub walked : ZhengguangRow → List ℤ → Walked ZhengguangRow
walked r cs = any-walk.walked rows r cs

-- from a row that is not genuine it is refused under 4
abbrev pub walk_answer : ZhengguangRow → List ℤ → Result (Walked ZhengguangRow) Refusal
walk_answer r cs = any-walk.walk_answer rows r cs

-- from a row handed in as numbers: from the row that they are, and refused under 4 where they are no genuine row's
abbrev pub walk_answer_fields : List ℕ → List ℤ → Result (Walked ZhengguangRow) Refusal
walk_answer_fields f cs = walked_by rows field_count row_fields f cs

abbrev pub zero_walk : Walked ZhengguangRow
zero_walk = record { row = zero_row; sum = pos 0; answered = 0 }
