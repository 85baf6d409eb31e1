-- A whole year by value, in any calendar.
-- Assumes nothing.
use Rattle.std.specs.Result.{result_unwrap_or}
use Rattle.std.specs.Prelude.{ℕ}
use Rattle.reckoning.specs.Search.{list_from}
use Rattle.lunisolar.specs.declared.Constants.{Constants}
use Rattle.mean_calendar.specs.Heads.{year_head}
use Rattle.mean_calendar.specs.Months.{month_row}
use Rattle.mean_calendar.specs.Answers.{zero_month}
use Rattle.mean_calendar.specs.declared.MeanMonth.{MeanMonth}
use Rattle.mean_year.specs.declared.MeanYear.{MeanYear}

-- the month at a place of a year; zeros where there is none
abbrev pub month_at : Constants → ℕ → ℕ → MeanMonth
month_at k n p = result_unwrap_or (month_row k n p) zero_month

-- how many places a year may have
abbrev pub places : ℕ
places = 13

-- its head, and what stands at each place that a year may have
abbrev pub mean_year : Constants → ℕ → MeanYear
mean_year k n = record { head = year_head k n; months = list_from (month_at k n) 0 places }
