-- The cases and the table of the eras follow from the definitions: the months before a year and the year of a month by their closed forms, all else
-- computed.
-- Assumes nothing.
use mathlib.Core.Path.{◌≡◌, refl}
use Prim.Native.Nat.{ℕ, suc, ◌+◌, ◌-◌, ◌*◌, ◌/◌}
use Rattle.reckoning.specs.Search.{between, first_from, any}
use Rattle.reckoning.specs.Rule.{Rule, year_of, month_count, is_leap, leap_place, month_number, place_of}
use Rattle.reckoning.specs.Means.{new_moon, new_moon_rest, term_day}
use Rattle.reckoning.specs.Days.{term_in}
use Rattle.reckoning.proofs.Days.{figured, year_of_month}
use Rattle.lunisolar.specs.Calendars.{year_at, lunation_for}
use Rattle.lunisolar.specs.Names.{name_of}
use Rattle.lunisolar.specs.Dates.{month_days}
use Rattle.mean_calendar.specs.Heads.{head_of, head_for}
use Rattle.mean_calendar.specs.Months.{month_of, month_for}
use Rattle.mean_calendar.specs.Cases.{All}
use Rattle.zhengguang.specs.Zhengguang.{N, D, P, zhengguang, means, rule}
use Rattle.zhengguang.specs.Rows.{row_for}
use Rattle.zhengguang.specs.Cases.{table, printed, ErasFrom}
use Rattle.zhengguang.proofs.Sound.{sound}

-- the rule with the months before a year by a division, and the year of a month by another
abbrev closed : Rule
closed = record { before = λ y. (term_day means (12 * y) * N + (N - 1)) / P; holds = term_in means }

is_closed : rule ≡ closed
is_closed = figured means sound.moon sound.sun

year_closed : (m : ℕ) → year_of rule m ≡ (new_moon means (suc m) * D - 1) / P
year_closed = year_of_month means sound.moon sound.sun

pub starred : All zhengguang table
unfolding between first_from any month_count is_leap leap_place month_number place_of new_moon new_moon_rest term_day term_in year_at lunation_for name_of month_days head_of head_for month_of month_for
starred =
    (rw is_closed refl, ((rw (is_closed, year_closed 0, is_closed) refl, refl), (rw is_closed refl, (rw is_closed refl, (rw is_closed refl, ((rw (is_closed, year_closed 2074847, is_closed) refl, refl), (rw is_closed refl, ((rw (is_closed, year_closed 4497119, is_closed) refl, refl), (refl, (refl, tt))))))))))

-- THE NODE DISTANCE AT EVERY ERA'S HEAD IS 001'S
pub era_heads : ErasFrom 0 printed
unfolding between month_count new_moon term_day year_at lunation_for month_of month_for row_for
era_heads =
    (rw is_closed (refl, refl, refl), (rw is_closed (refl, refl, refl), (rw is_closed (refl, refl, refl), (rw is_closed (refl, refl, refl), (rw is_closed (refl, refl, refl), (rw is_closed (refl, refl, refl), tt))))))
