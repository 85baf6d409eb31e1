-- The months of the round: month to year and place and back, and the treatise's monthly addition.
-- Assumes nothing.
use Rattle.std.specs.Prelude.{Ok}
use mathlib.Core.Path.{◌≡◌, ◌∙◌, sym, ap}
use Prim.Native.Nat.{ℕ, suc, ◌<◌}
use Rattle.lunisolar.proofs.Rounds as rounds
use Rattle.mean_calendar.specs.Months.{month_of}
use Rattle.units.specs.Xinghe.{xinghe, round_months}
use Rattle.units.proofs.Sound.{sound}
use Rattle.moon.specs.NewMoons.{new_moon_of, monthly_addition}
use Rattle.moon.specs.declared.NewMoon.{NewMoon}
use Rattle.moon.proofs.Addition.{next_new_moon}
use Rattle.calendar.specs.Rows.{row_of, row_for, month_row}
use Rattle.calendar.specs.declared.MonthRow.{MonthRow}
use Rattle.calendar.proofs.Round.{row_found}

-- a month's row is the row at its year and place
pub month_to_place : (m : ℕ) → m < round_months → month_row (row_of m).year (row_of m).place ≡ Ok (row_of m)
unfolding row_of row_for month_of
month_to_place m h = ap row_for (rounds.month_to_place xinghe sound m h)

-- a row that is answered for a year and a place has that year and that place
pub place_to_month : (n p : ℕ) (row : MonthRow) → month_row n p ≡ Ok row → (row.year ≡ n) × (row.place ≡ p) × (row.lunation < round_months)
unfolding row_of month_of
place_to_month n p row e =
    let f = row_found n p row (sym e) in
    let r = f.is_row in
    let at = rounds.place_to_month xinghe sound n p f.month f.at in (
      ap (λ (x : MonthRow). x.year) r ∙ at.0,
      ap (λ (x : MonthRow). x.place) r ∙ at.1,
      rw r (rounds.lunation_in_round xinghe sound n p f.month f.at),
    )

-- the monthly addition gives the next row's day and remainder, at every month that has a next
abbrev pub moon_of : MonthRow → NewMoon
moon_of row = record { day = row.day; remainder = row.remainder }

pub monthly : (m : ℕ) → suc m < round_months → moon_of (row_of (suc m)) ≡ monthly_addition (moon_of (row_of m))
unfolding row_of month_of new_moon_of
monthly m h = next_new_moon m
