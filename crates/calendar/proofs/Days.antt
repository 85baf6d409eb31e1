-- The days of the round: each lies in exactly one month, and date to day number and day number to date undo one another.
-- Assumes nothing.
use Rattle.std.specs.Prelude.{Ok, Err}
use mathlib.Core.Path.{◌≡◌}
use Prim.Native.Nat.{ℕ, suc, ◌+◌, ◌-◌, ◌<◌, ◌≤◌}
use native.Mathlib.Omega.{arith}
use Rattle.reckoning.specs.Search.{pick, between}
use Rattle.reckoning.specs.Means.{new_moon}
use Rattle.reckoning.specs.Dates.{month_of}
use Rattle.refusal.specs.declared.Refusal.{Refusal}
use Rattle.lunisolar.specs.Dates.{day_of, day_in, day_for}
use Rattle.lunisolar.specs.declared.dates.Date.{Date}
use Rattle.lunisolar.proofs.Days as days
use Rattle.units.specs.Xinghe.{xinghe, means, round_months, round_days}
use Rattle.units.proofs.Sound.{sound}
use Rattle.calendar.specs.Rows.{row_of, month_row}
use Rattle.calendar.specs.Dates.{day_of_date, date_of_day}
use Rattle.calendar.specs.declared.MonthRow.{MonthRow}
use Rattle.calendar.proofs.Round.{row_day, row_length, row_found}

-- day d is one of the days of month m of the round
pub record Within (d m : ℕ) : Type 0 where
  pub month : m < round_months
  pub from : (row_of m).day ≤ d
  pub upto : d < (row_of m).day + (row_of m).length

of_row : (d m : ℕ) → Within d m → days.Within xinghe d m
of_row d m w =
    record { month = w.month; from = omega (arith, row_day m, w.from); upto = omega (arith, row_day m, row_length m, w.upto) }

-- EACH DAY OF THE ROUND LIES IN A MONTH OF THE ROUND, AND IN NO OTHER
pub in_a_month : (d : ℕ) → d < round_days → Within d (month_of (new_moon means) d)
in_a_month d h =
    let m : ℕ = month_of (new_moon means) d in
    let w = days.in_a_month xinghe sound d h in
    record { month = w.month; from = omega (arith, row_day m, w.from); upto = omega (arith, row_day m, row_length m, w.upto) }

pub in_no_other : (d m : ℕ) → Within d m → month_of (new_moon means) d ≡ m
in_no_other d m w = days.in_no_other xinghe sound d m (of_row d m w)

-- and the months' days are the round's
pub in_the_round : (d m : ℕ) → Within d m → d < round_days
in_the_round d m w = days.in_the_round xinghe sound d m (of_row d m w)

-- THE DAYS OF A DATE'S MONTH ARE ITS ROW'S: from the row's day on, as many as its length, and refused under 3 else
pub days_of_row : (n p i : ℕ) (row : MonthRow) → Ok row ≡ month_row n p →
    day_of_date n p i ≡ pick (between 1 i (suc row.length)) (Ok (day_of (row.day + (i - 1)))) (Err Refusal.DayOfMonth)
unfolding day_for day_in
days_of_row n p i row e =
    let f = row_found n p row e in
    rw (f.is_row, row_day f.month, row_length f.month, ← f.at)

-- DAY NUMBER TO DATE AND BACK: every day of the round has a date, whose day it is
pub day_date_day : (d : ℕ) → d < round_days → (x : Date) × (date_of_day d ≡ Ok x) × (day_of_date x.year x.place x.day ≡ Ok (day_of d))
day_date_day = days.day_date_day xinghe sound

-- DATE TO DAY NUMBER AND BACK: every date that has a day is that day's date
pub date_day_date : (n p i d : ℕ) → day_of_date n p i ≡ Ok (day_of d) → date_of_day d ≡ Ok (record { year = n; place = p; day = i })
date_day_date = days.date_day_date xinghe sound
