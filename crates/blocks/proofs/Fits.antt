-- The numbers of a year and its months fit the bytes that a block has for them.
-- Assumes nothing.
use Rattle.calendar.specs.declared.YearHead.{YearHead}
use Rattle.std.specs.Prelude.{Result, Ok, Err}
use Rattle.refusal.specs.declared.Refusal.{Refusal}
use Rattle.std.specs.Result.{result_unwrap_or}
use mathlib.Core.Path.{◌≡◌, refl, sym, ap}
use mathlib.Core.Bool.{Bool, true, false}
use mathlib.Core.Logic.{⊎_elim}
use Prim.Native.Nat.{ℕ, zero, suc, ◌+◌, ◌-◌, ◌%◌, ◌≤◌, ◌<◌}
use native.Mathlib.Omega.{arith}
use Rattle.reckoning.specs.Search.{pick}
use Rattle.reckoning.specs.Rule.{Rule, is_leap, month_number, year_of, place_of}
use Rattle.reckoning.proofs.Leaps.{Common, Long, two_kinds}
use Rattle.lunisolar.specs.Names.{name_of}
use lib.Dec.{leb}
use Rattle.mean_calendar.specs.Months.{month_of}
use Rattle.units.specs.Xinghe.{rule, long_from, round_months}
use Rattle.units.specs.Units.{DayRemainder}
use Rattle.units.proofs.Sound.{laws}
use Rattle.moon.specs.NewMoons.{new_moon_of, length_of}
use Rattle.calendar.specs.Heads.{year_head}
use Rattle.calendar.specs.Rows.{row_of}
use Rattle.calendar.specs.Answers.{zero_head, zero_row}
use Rattle.calendar.specs.declared.MonthRow.{MonthRow}
use Rattle.calendar.proofs.Round.{head_leap, head_row, row_length_by}
use Rattle.calendar.proofs.Steps.{elements_bound}
use Rattle.year_list.specs.Filled.{row_at}
use Rattle.year_list.proofs.Fronts.{has_head, month_in_round}
use Rattle.totals.specs.Totals.{months_of}

-- the leap place is at most 12; what is no year has none
pub leap_fits : (n : ℕ) → (result_unwrap_or (year_head n) zero_head).leap ≤ 12
leap_fits n = go (year_head n) refl
  where
    go : (a : Result YearHead Refusal) → a ≡ year_head n → (result_unwrap_or a zero_head).leap ≤ 12
    go (Ok head) q =
        rw (head_leap n head q)
        (⊎_elim
        (λ (c : Common rule laws (n - 1)). omega (arith, c.place))
        (λ (c : Long rule laws (n - 1)). c.leap.upto)
        (two_kinds rule laws (n - 1)))
    go (Err e) q = omega arith

-- a month's number is at most 12
number_fits : (R : Rule) (y p : ℕ) → month_number R y p ≤ 12
unfolding month_number
number_fits R y zero = omega arith
number_fits R y (suc p) = go (is_leap R y (R.before y + suc p)) (number_fits R y p)
  where
    go : (t : Bool) → month_number R y p ≤ 12 → pick t (month_number R y p) (month_number R y p % 12 + 1) ≤ 12
    go true h = h
    go false h = omega arith

-- a month has 29 days or 30
length_fits : (r : DayRemainder) → length_of r < 256
unfolding length_of
length_fits r = go (leb long_from r.parts)
  where
    go : (t : Bool) → pick {A = ℕ} t 30 29 < 256
    go true = omega arith
    go false = omega arith

-- what a record has of a month
pub record RowFits (row : MonthRow) : Type 0 where
  pub lunation : row.lunation < 4294967296
  pub day : row.day < 4294967296
  pub remainder : row.remainder.parts < 4294967296
  pub length : row.length < 256
  pub number : row.number < 256

pub row_fits : (n p : ℕ) → p < months_of n → RowFits (row_at n p)
unfolding row_of name_of month_of new_moon_of
row_fits n p h =
    let a = year_head n in
    let m : ℕ = (result_unwrap_or a zero_head).before + p in
    let inside : m < round_months = month_in_round n a p refl h in
    let is : row_at n p ≡ row_of m = ap (λ r. result_unwrap_or r zero_row) (sym (head_row n (result_unwrap_or a zero_head) (has_head a p h) p h)) in
    let e = elements_bound m inside in
    rw is
    (record {
      lunation = omega (arith, inside);
      day = e.day;
      remainder = omega (arith, e.remainder);
      length = rw (row_length_by m) (length_fits (row_of m).remainder);
      number = omega (arith, number_fits rule (year_of rule m) (place_of rule m));
    })
