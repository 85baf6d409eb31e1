-- The months and days of the round: how many there are, what a row says of them, and whose an answered row or head is.
-- Assumes nothing.
use Rattle.std.specs.Prelude.{Result, Ok, Err}
use Rattle.refusal.specs.declared.Refusal.{Refusal}
use Rattle.std.specs.Result.{result_unwrap_or}
use mathlib.Core.Path.{◌≡◌, ◌∙◌, refl, sym, ap}
use Prim.Native.Nat.{ℕ, suc, ◌+◌, ◌-◌, ◌*◌, ◌/◌, ◌≤◌, ◌<◌}
use native.Mathlib.Omega.{arith}
use lib.Dec.{T}
use Rattle.reckoning.specs.Rule.{leap_place, year_of}
use Rattle.reckoning.specs.Means.{new_moon}
use Rattle.reckoning.proofs.Searches.{between_low, between_high}
use Rattle.reckoning.proofs.Days.{year_of_month}
use Rattle.lunisolar.specs.Calendars.{Stands, year_at, lunation_at}
use Rattle.lunisolar.specs.Dates.{month_days}
use Rattle.lunisolar.proofs.Laws.{count_bound, year_at_lem, year_found, lunation_at_lem}
use Rattle.lunisolar.proofs.Days.{next_day, length_is}
use Rattle.mean_calendar.specs.Months.{month_of}
use Rattle.units.specs.Xinghe.{D, P, xinghe, means, rule, round_years, round_months, round_days, is_year}
use Rattle.units.proofs.Sound.{sound}
use Rattle.moon.specs.NewMoons.{length_of}
use Rattle.calendar.specs.Heads.{head_of, head_for, year_head}
use Rattle.calendar.specs.Answers.{zero_head}
use Rattle.calendar.specs.declared.YearHead.{YearHead}
use Rattle.calendar.specs.Rows.{row_of, row_for, month_row}
use Rattle.calendar.specs.declared.MonthRow.{MonthRow}

-- THE LAST YEAR ENDS WITH MONTH 12,511,799, AND THAT MONTH WITH DAY 369,481,019
pub round_months_lem : rule.before round_years ≡ round_months
round_months_lem = sound.lunations

pub round_days_lem : new_moon means round_months ≡ round_days
round_days_lem = sound.days

-- the year of a month by one division
pub year_closed : (m : ℕ) → year_of rule m ≡ (new_moon means (suc m) * D - 1) / P
year_closed m = year_of_month means sound.moon sound.sun m

-- A ROW'S DAY IS ITS MONTH'S FIRST, AND ITS LENGTH THE DAYS UNTIL THE NEXT MONTH BEGINS
pub row_day : (m : ℕ) → (row_of m).day ≡ new_moon means m
unfolding row_of month_of
row_day m = refl

pub row_length : (m : ℕ) → (row_of m).length ≡ month_days xinghe m
unfolding row_of month_of
row_length m = refl

pub row_end : (m : ℕ) → (row_of m).day + (row_of m).length ≡ new_moon means (suc m)
row_end m = omega (arith, row_day m, row_length m, next_day xinghe sound m)

-- ITS LENGTH IS 01'S: 30 days where its small remainder is 97,883 or more, otherwise 29
pub row_length_by : (m : ℕ) → (row_of m).length ≡ length_of (row_of m).remainder
unfolding row_of month_of length_of
row_length_by m = sym (length_is xinghe sound m)

-- a row that is answered is that of the month that stands there
pub record RowFound (n p : ℕ) (row : MonthRow) : Type 0 where
  pub month : ℕ
  pub at : Ok month ≡ lunation_at xinghe n p
  pub is_row : row ≡ row_of month

pub row_found : (n p : ℕ) (row : MonthRow) → Ok row ≡ month_row n p → RowFound n p row
unfolding row_for
row_found n p row e = go (lunation_at xinghe n p) refl e
  where
    go : (a : Result ℕ Refusal) → a ≡ lunation_at xinghe n p → Ok row ≡ row_for a → RowFound n p row
    go (Ok m) q e = record { month = m; at = q; is_row = cc }
    go (Err x) q e = let bad : ◌≡◌ {A = ℕ} 0 1 = cc in absurd (omega arith)

-- a head that is answered is its year's
pub record HeadFound (n : ℕ) (head : YearHead) : Type 0 where
  pub written : 1 ≤ n
  pub upto : n - 1 < round_years
  pub is_head : head ≡ head_of (n - 1)

pub head_found : (n : ℕ) (head : YearHead) → Ok head ≡ year_head n → HeadFound n head
unfolding head_for
head_found n head e = go (year_at xinghe n) refl e
  where
    go : (a : Result ℕ Refusal) → a ≡ year_at xinghe n → Ok head ≡ head_for a → HeadFound n head
    go (Ok y) q e =
        let f = year_found xinghe n y q in
        let w : n - 1 ≡ y = omega (arith, f.written) in
        let h : head ≡ head_of y = cc in
        record { written = omega (arith, f.written); upto = rw w f.upto; is_head = rw w h }
    go (Err x) q e = let bad : ◌≡◌ {A = ℕ} 0 1 = cc in absurd (omega arith)

-- and each year of the round has one
pub year_headed : (n : ℕ) → T (is_year n) → Ok (result_unwrap_or (year_head n) zero_head) ≡ year_head n
unfolding head_for
year_headed n t =
    let e : n - 1 + 1 ≡ n = omega (arith, between_low 1 n (suc round_years) t) in
    let q : year_at xinghe n ≡ Ok (n - 1) =
    ap (year_at xinghe) (sym e) ∙ year_at_lem xinghe (n - 1) (omega (arith, e, between_high 1 n (suc round_years) t)) in
    rw q refl

-- it has at most thirteen months, and the leap place of its year
module _ (n : ℕ) (head : YearHead) (e : Ok head ≡ year_head n) where
  pub head_months : head.months ≤ 13
  unfolding head_of
  head_months = rw (head_found n head e).is_head (count_bound xinghe sound (n - 1))

  pub head_leap : head.leap ≡ leap_place rule (n - 1)
  unfolding head_of
  head_leap = rw (head_found n head e).is_head refl

  -- each place below its count is that of a month, whose row is the one at that place of the year
  module _ (p : ℕ) (h : p < head.months) where
    pub head_stands : Stands xinghe (n - 1) p (head.before + p)
    unfolding head_of
    head_stands = let f = head_found n head e in record { year = f.upto; place = rw f.is_head at h; month = rw f.is_head }

    pub head_row : Ok (row_of (head.before + p)) ≡ month_row n p
    unfolding row_for
    head_row =
        let f = head_found n head e in
        let s = head_stands in
        let w : n - 1 + 1 ≡ n = omega (arith, f.written) in
        rw s.month (ap row_for (sym (lunation_at_lem xinghe (n - 1) p s.year s.place) ∙ ap (λ (k : ℕ). lunation_at xinghe k p) w))
