-- What is promised of the Zhengguang: the laws of any calendar, at its constants and rows, and its numbers as 001 prints them.
-- Assumes nothing.
use Rattle.std.specs.Prelude.{Ok, Err}
use Rattle.refusal.specs.declared.Refusal.{Refusal}
use mathlib.Core.Path.{◌≡◌, refl, ap}
use mathlib.Core.Bool.{Bool, true, false}
use mathlib.Core.Logic.{◌⊎◌}
use Prim.Native.Nat.{ℕ, ◌+◌, ◌*◌, ◌<◌}
use native.Mathlib.Omega.{arith}
use lib.IntN.{ℤ, pos, nat_abs, ◌+ℤ◌}
use Rattle.reckoning.specs.Search.{pick}
use Rattle.reckoning.specs.Means.{new_moon}
use Rattle.lunisolar.specs.Dates.{day_of, day_of_date, date_of_day}
use Rattle.lunisolar.specs.declared.dates.Date.{Date}
use Rattle.lunisolar.proofs.Days as dates
use Rattle.walking.specs.Walk.{in_round, genuine}
use Rattle.walking.proofs.Program.{inside}
use Rattle.walking.proofs.Demand.{Demand, demand}
use Rattle.mean_calendar.specs.Heads as heads
use Rattle.mean_calendar.specs.Months.{month_of}
use Rattle.mean_calendar.specs.declared.MeanHead.{MeanHead}
use Rattle.mean_calendar.proofs.LeapYears as leap-years
use Rattle.mean_calendar.proofs.LeapYears.{Twelve, Thirteen}
use Rattle.mean_calendar.proofs.Stays.{month_to_place}
use Rattle.zhengguang.specs.Zhengguang.{N, P, M, round_years, round_months, round_days, zhengguang, means, rule}
use Rattle.zhengguang.specs.Rows.{row_of, row_for, month_row}
use Rattle.zhengguang.specs.Carries.{rows, carried}
use Rattle.zhengguang.specs.declared.ZhengguangRow.{ZhengguangRow}
use Rattle.zhengguang.proofs.Sound.{sound}
use Rattle.zhengguang.proofs.Lawful.{lawful}

-- THE LAST YEAR ENDS WITH MONTH 4,497,119, AND THAT MONTH WITH DAY 132,802,619
pub round_months_lem : rule.before round_years ≡ round_months
round_months_lem = sound.lunations

pub round_days_lem : new_moon means round_months ≡ round_days
round_days_lem = sound.days

-- EVERY YEAR HAS 12 MONTHS AND NO LEAP, OR 13 AND EXACTLY ONE
pub twelve_or_thirteen : (n : ℕ) (head : MeanHead) → Ok head ≡ heads.year_head zhengguang n → Twelve zhengguang n head ⊎ Thirteen zhengguang n head
twelve_or_thirteen = leap-years.twelve_or_thirteen zhengguang sound

-- DATE AND DAY UNDO ONE ANOTHER, over all its days
pub day_date_day : (d : ℕ) → d < round_days →
    (x : Date) × (date_of_day zhengguang d ≡ Ok x) × (day_of_date zhengguang x.year x.place x.day ≡ Ok (day_of d))
day_date_day = dates.day_date_day zhengguang sound

pub date_day_date : (n p i d : ℕ) → day_of_date zhengguang n p i ≡ Ok (day_of d) → date_of_day zhengguang d ≡ Ok (record { year = n; place = p; day = i })
date_day_date = dates.date_day_date zhengguang sound

-- DEMAND 3, over its rows and all lists of counts
pub demand_3 : Demand rows
demand_3 = demand rows lawful

-- a month's row is the row at its year and place
in_months : (m : ℕ) → m < round_months → ((row_of m).mean.lunation < round_months) × (month_row (row_of m).mean.year (row_of m).mean.place ≡ Ok (row_of m))
unfolding row_of row_for month_of
in_months m h = (h, ap row_for (month_to_place zhengguang sound m h))

-- A CARRY STAYS WITHIN THE MONTHS OF ITS YEARS
pub carry_stays : (r : ZhengguangRow) (c : ℤ) (x : ZhengguangRow) → carried r c ≡ Ok x →
    (x.mean.lunation < round_months) × (month_row x.mean.year x.mean.place ≡ Ok x)
carry_stays r c x e = go (pos r.mean.lunation +ℤ c) (genuine rows r) (in_round round_months (pos r.mean.lunation +ℤ c)) refl e
  where
    go : (z : ℤ) (g i : Bool) → in_round round_months z ≡ i → (pick g (pick i (Ok (row_of (nat_abs z))) (Err Refusal.Carry)) (Err Refusal.Row)) ≡ Ok x →
        (x.mean.lunation < round_months) × (month_row x.mean.year x.mean.place ≡ Ok x)
    go z true true i e =
        let q : x ≡ row_of (nat_abs z) = cc in
        rw q (in_months (nat_abs z) (inside round_months z i))
    go z true false i e = let bad : ◌≡◌ {A = ℕ} 0 1 = cc in absurd (omega arith)
    go z false b i e = let bad : ◌≡◌ {A = ℕ} 0 1 = cc in absurd (omega arith)

-- the month is 29 days and 39,769 parts (經月), and the node half-round 173 days and 23,208 (會數)
pub month_length : P ≡ 29 * N + 39769
month_length = refl

pub node_half_round : M ≡ 173 * N + 23208
node_half_round = refl
