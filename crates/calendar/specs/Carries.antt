-- Rows carried by signed counts of months (01, "Walks"): the carry of any calendar of a round, at the Xinghe.
-- Assumes nothing.
use Rattle.std.specs.Prelude.{Result, Bool, List, ℕ, ℤ}
use Rattle.refusal.specs.declared.Refusal.{Refusal}
use Rattle.units.specs.Xinghe.{round_months}
use Rattle.walking.specs.Walk.{Calendar, carry}
use Rattle.walking.specs.Fields.{same_fields, genuine_by, carried_by}
use Rattle.calendar.specs.Rows.{field_count, row_fields, row_of}
use Rattle.calendar.specs.declared.MonthRow.{MonthRow}

-- the months of the round; two rows are the same where they are so in every field
abbrev pub months : Calendar MonthRow
months = record { size = round_months; row = row_of; month = λ r. r.lunation; same = λ r s. same_fields field_count (row_fields r) (row_fields s) }

-- the carry of a row by a count
abbrev pub carried : MonthRow → ℤ → Result MonthRow Refusal
carried row c = carry months row c

-- a row handed in as numbers: whether it is genuine, and its carry by a count
abbrev pub genuine_fields : List ℕ → Bool
genuine_fields f = genuine_by months field_count row_fields f

abbrev pub carried_fields : List ℕ → ℤ → Result MonthRow Refusal
carried_fields f c = carried_by months field_count row_fields f c
