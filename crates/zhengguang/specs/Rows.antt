-- A year's head and a month's row (02 §9): any calendar's, with what the Zhengguang has beside them.
-- Assumes nothing.
use Rattle.zhengguang.specs.declared.ZhengguangHead.{ZhengguangHead}
use Rattle.mean_calendar.specs.declared.MeanHead.{MeanHead}
use Rattle.std.specs.Prelude.{Result, Ok, Err, List, [], ◌∷◌, ◌++◌, ℕ, ◌-◌}
use Rattle.refusal.specs.declared.Refusal.{Refusal}
use Rattle.mean_calendar.specs.Parts.{over_day}
use Rattle.mean_calendar.specs.Heads as heads
use Rattle.mean_calendar.specs.Months as months
use Rattle.mean_calendar.specs.declared.MeanMonth.{MeanMonth}
use Rattle.zhengguang.specs.Zhengguang.{zhengguang, leap_remainder}
use Rattle.zhengguang.specs.Nodes.{since_node}
use Rattle.zhengguang.specs.declared.ZhengguangRow.{ZhengguangRow}

-- the head of year n, and the leap remainder of the chapter, of its n − 1 years past
unfoldable pub head_by : ℕ → Result MeanHead Refusal → Result ZhengguangHead Refusal
head_by n (Ok head) = Ok (record { mean = head; remainder = leap_remainder (n - 1) })
head_by n (Err e) = Err e

abbrev pub year_head : ℕ → Result ZhengguangHead Refusal
year_head n = head_by n (heads.year_head zhengguang n)

-- a month with the degrees and the remainder over N of its new moon's distance since the node
abbrev pub row_by : MeanMonth → ZhengguangRow
row_by r = record { mean = r; degrees = (over_day zhengguang (since_node r.lunation)).whole; residue = (over_day zhengguang (since_node r.lunation)).rest }

-- the row worked out from the origin for month m, which takes nothing but m
unfoldable pub row_of : ℕ → ZhengguangRow
row_of m = row_by (months.month_of zhengguang m)

-- the row at place p of year n: refused as the month is
unfoldable pub row_for : Result MeanMonth Refusal → Result ZhengguangRow Refusal
row_for (Ok r) = Ok (row_by r)
row_for (Err e) = Err e

abbrev pub month_row : ℕ → ℕ → Result ZhengguangRow Refusal
month_row n p = row_for (months.month_row zhengguang n p)

-- its fields as numbers, in their order, and how many they are
abbrev pub field_count : ℕ
field_count = 10

abbrev pub row_fields : ZhengguangRow → List ℕ
row_fields r = months.month_fields r.mean ++ r.degrees ∷ r.residue.parts ∷ []
