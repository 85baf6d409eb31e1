-- A whole year in a lent list of rows (01, "Numbers returned").
-- Assumes nothing.
use Rattle.calendar.specs.declared.YearHead.{YearHead}
use Rattle.std.specs.Prelude.{Result, Ok, Err, List, [], ◌∷◌, ◌++◌, ℕ, zero, suc, leb, length, take, drop, replicate}
use Rattle.std.specs.Result.{result_unwrap_or}
use Rattle.reckoning.specs.Search.{pick}
use Rattle.refusal.specs.declared.Refusal.{Refusal}
use Rattle.calendar.specs.Heads.{year_head}
use Rattle.calendar.specs.Rows.{month_row}
use Rattle.calendar.specs.Answers.{zero_row}
use Rattle.calendar.specs.declared.MonthRow.{MonthRow}
use Rattle.year_list.specs.declared.YearRows.{YearRows}

-- a list of that many rows: refused under 1 where the round has no such year, then under 6 where the list is shorter than the year's month count
unfoldable pub answer_for : Result YearHead Refusal → ℕ → Result ℕ Refusal
answer_for (Ok head) have = pick (leb head.months have) (Ok head.months) (Err Refusal.List)
answer_for (Err e) have = Err e

abbrev pub fill_answer : ℕ → ℕ → Result ℕ Refusal
fill_answer n have = answer_for (year_head n) have

-- the row at a place of a year
abbrev pub row_at : ℕ → ℕ → MonthRow
row_at n p = result_unwrap_or (month_row n p) zero_row

-- the year's first k rows, by place from p on
unfoldable pub rows_from : ℕ → ℕ → ℕ → List MonthRow
rows_from n p zero = []
rows_from n p (suc k) = row_at n p ∷ rows_from n (suc p) k

-- how many rows are written
abbrev pub to_write : ℕ → ℕ → ℕ
to_write n have = result_unwrap_or (fill_answer n have) 0

-- the list afterwards: the year's rows at the front, and the rest as it was; refused, all of it
abbrev pub filled : ℕ → List MonthRow → List MonthRow
filled n rows = rows_from n 0 (to_write n (length rows)) ++ drop (to_write n (length rows)) rows

-- a list of rows of which the first `have` are lent
abbrev pub filled_front : ℕ → ℕ → List MonthRow → List MonthRow
filled_front have n rows = filled n (take have rows) ++ drop have rows

-- a year by value: its head, and thirteen rows of zeros, filled
abbrev pub year_rows : ℕ → YearRows
year_rows n = record { head = year_head n; rows = filled n (replicate 13 zero_row) }
