-- What is promised of the Linde: the laws of any calendar, at its constants, and its numbers as 002 prints them.
-- Assumes nothing.
use Rattle.std.specs.Prelude.{Ok}
use mathlib.Core.Path.{◌≡◌, refl}
use mathlib.Core.Logic.{◌⊎◌}
use Prim.Native.Nat.{ℕ, ◌+◌, ◌*◌, ◌<◌}
use lib.IntN.{ℤ}
use Rattle.reckoning.specs.Means.{new_moon}
use Rattle.lunisolar.specs.Dates.{day_of, day_of_date, date_of_day}
use Rattle.lunisolar.specs.declared.dates.Date.{Date}
use Rattle.lunisolar.proofs.Days as dates
use Rattle.walking.proofs.Demand.{Demand}
use Rattle.mean_calendar.specs.Heads.{year_head}
use Rattle.mean_calendar.specs.Months.{month_row}
use Rattle.mean_calendar.specs.Carries.{months_of, carried}
use Rattle.mean_calendar.specs.declared.MeanHead.{MeanHead}
use Rattle.mean_calendar.specs.declared.MeanMonth.{MeanMonth}
use Rattle.mean_calendar.proofs.LeapYears as leap-years
use Rattle.mean_calendar.proofs.LeapYears.{Twelve, Thirteen}
use Rattle.mean_calendar.proofs.Stays as any-calendar
use Rattle.mean_walk.proofs.Demand3 as any-walk
use Rattle.linde.specs.Linde.{N, D, P, year_parts, years, lunations, days, linde, means, rule}
use Rattle.linde.proofs.Sound.{sound}

-- THE MONTHS END BEFORE THE ONE WITH THE SOLSTICE OF 300,001, AND THE DAYS WITH THEM
pub round_months_lem : rule.before years ≡ lunations
round_months_lem = sound.lunations

pub round_days_lem : new_moon means lunations ≡ days
round_days_lem = sound.days

-- EVERY YEAR HAS 12 MONTHS AND NO LEAP, OR 13 AND EXACTLY ONE
pub twelve_or_thirteen : (n : ℕ) (head : MeanHead) → Ok head ≡ year_head linde n → Twelve linde n head ⊎ Thirteen linde n head
twelve_or_thirteen = leap-years.twelve_or_thirteen linde sound

-- DATE AND DAY UNDO ONE ANOTHER, over all its days
pub day_date_day : (d : ℕ) → d < days →
    (x : Date) × (date_of_day linde d ≡ Ok x) × (day_of_date linde x.year x.place x.day ≡ Ok (day_of d))
day_date_day = dates.day_date_day linde sound

pub date_day_date : (n p i d : ℕ) → day_of_date linde n p i ≡ Ok (day_of d) → date_of_day linde d ≡ Ok (record { year = n; place = p; day = i })
date_day_date = dates.date_day_date linde sound

-- DEMAND 3, over its months and all lists of counts
pub demand_3 : Demand (months_of linde)
demand_3 = any-walk.demand_3 linde

-- A CARRY STAYS WITHIN THE MONTHS OF ITS YEARS
pub carry_stays : (r : MeanMonth) (c : ℤ) (x : MeanMonth) → carried linde r c ≡ Ok x → (x.lunation < lunations) × (month_row linde x.year x.place ≡ Ok x)
carry_stays = any-calendar.carry_stays linde sound

-- the month is 29 days and 711 parts, and a term 15 days and 292 5/6 parts (002, 徑次朔 and 求恆次氣術)
pub month_length : P ≡ 29 * N + 711
month_length = refl

pub term_length : 6 * year_parts ≡ 24 * (6 * (15 * D + 292) + 5)
term_length = refl
