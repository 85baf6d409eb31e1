-- A whole year by value (02 §9).
-- Assumes nothing.
use Rattle.std.specs.Result.{result_unwrap_or}
use Rattle.std.specs.Prelude.{ℕ}
use Rattle.reckoning.specs.Search.{list_from}
use Rattle.mean_year.specs.Years.{places}
use Rattle.zhengguang.specs.Rows.{year_head, month_row}
use Rattle.zhengguang.specs.Answers.{zero_row}
use Rattle.zhengguang.specs.declared.ZhengguangRow.{ZhengguangRow}
use Rattle.zhengguang.specs.declared.years.ZhengguangYear.{ZhengguangYear}

-- the row at a place of a year; zeros where there is none
abbrev pub row_at : ℕ → ℕ → ZhengguangRow
row_at n p = result_unwrap_or (month_row n p) zero_row

-- its head, and what stands at each place that a year may have
abbrev pub year_rows : ℕ → ZhengguangYear
year_rows n = record { head = year_head n; rows = list_from (row_at n) 0 places }
