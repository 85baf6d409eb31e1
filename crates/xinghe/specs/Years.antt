-- A whole year in a lent list of numbers.
-- Assumes nothing.
use Rattle.calendar.specs.declared.YearHead.{YearHead}
use Rattle.std.specs.Prelude.{Result, List, [], ◌∷◌, ◌++◌, ℕ, ◌*◌, ◌/◌, length, drop}
use Rattle.refusal.specs.declared.Refusal.{Refusal}
use Rattle.std.specs.Result.{result_unwrap_or}
use Rattle.calendar.specs.Heads.{year_head}
use Rattle.calendar.specs.Rows.{field_count, row_fields}
use Rattle.calendar.specs.declared.MonthRow.{MonthRow}
use Rattle.year_list.specs.Filled.{rows_from, answer_for}

-- the numbers of rows, one row after the other
unfoldable pub rows_fields : List MonthRow → List ℕ
rows_fields [] = []
rows_fields (row ∷ rows) = row_fields row ++ rows_fields rows

-- the answer for a year with that head and a list of that many numbers: it holds a row for each whole thirteen of them
abbrev pub answer_in : Result YearHead Refusal → ℕ → Result ℕ Refusal
answer_in head have = answer_for head (have / field_count)

-- the answer for year n
abbrev pub fill_answer_in : ℕ → ℕ → Result ℕ Refusal
fill_answer_in n have = answer_in (year_head n) have

-- the list with the year's first k rows at its front
abbrev pub front_fields : ℕ → ℕ → List ℕ → List ℕ
front_fields n k xs = rows_fields (rows_from n 0 k) ++ drop (field_count * k) xs

-- the list afterwards: the year's rows at the front, and the rest as it was; refused, all of it
abbrev pub filled_fields : ℕ → List ℕ → List ℕ
filled_fields n xs = front_fields n (result_unwrap_or (fill_answer_in n (length xs)) 0) xs
