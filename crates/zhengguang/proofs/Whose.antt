-- Whose an answered month is, and what stands at a place of a year.
-- Assumes nothing.
use Rattle.std.specs.Prelude.{Result, Ok, Err}
use Rattle.refusal.specs.declared.Refusal.{Refusal}
use Rattle.std.specs.Result.{result_unwrap_or}
use mathlib.Core.Path.{◌≡◌, refl}
use Prim.Native.Nat.{ℕ, ◌<◌}
use native.Mathlib.Omega.{arith}
use Rattle.lunisolar.proofs.Rounds.{lunation_in_round}
use Rattle.mean_calendar.specs.Months as months
use Rattle.mean_calendar.specs.Answers.{zero_month}
use Rattle.mean_calendar.specs.declared.MeanMonth.{MeanMonth}
use Rattle.mean_calendar.proofs.Found.{month_found}
use Rattle.zhengguang.specs.Zhengguang.{zhengguang, round_months}
use Rattle.zhengguang.specs.Rows.{row_by, row_for}
use Rattle.zhengguang.specs.Answers.{zero_row}
use Rattle.zhengguang.proofs.Sound.{sound}

-- a month that is answered is one of the round
pub month_in_round : (n p : ℕ) (r : MeanMonth) → Ok r ≡ months.month_row zhengguang n p → r.lunation < round_months
unfolding months.month_of
month_in_round n p r e =
    let f = month_found zhengguang n p r e in
    rw f.is_month (lunation_in_round zhengguang sound n p f.lunation f.at)

-- what stands at a place has a number below that
pub place_low : (n p : ℕ) → (result_unwrap_or (months.month_row zhengguang n p) zero_month).lunation < 16777216
place_low n p = go (months.month_row zhengguang n p) refl
  where
    go : (a : Result MeanMonth Refusal) → a ≡ months.month_row zhengguang n p → (result_unwrap_or a zero_month).lunation < 16777216
    go (Ok r) e = omega (arith, month_in_round n p r e)
    go (Err x) e = omega arith

-- the row of what stands at a place is the row there: zeros where there is none
pub row_of_values : (a : Result MeanMonth Refusal) → row_by (result_unwrap_or a zero_month) ≡ result_unwrap_or (row_for a) zero_row
unfolding row_for
row_of_values (Ok r) = refl
row_of_values (Err e) = refl
