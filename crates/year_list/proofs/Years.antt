-- What stands in the lent list afterwards: each of the year's rows by place, and past them what stood there; and the numbers returned.
-- Assumes nothing.
use Rattle.std.specs.Prelude.{Ok, Err}
use Rattle.refusal.specs.Numbers.{answer_number}
use mathlib.Core.Path.{◌≡◌, ◌∙◌, ap}
use mathlib.Core.List.{List, ◌++◌}
use Prim.Native.Nat.{ℕ, zero, suc, ◌+◌, ◌-◌, ◌≤◌, ◌<◌}
use native.Mathlib.Nat.{add-zero, zero-add}
use native.Mathlib.Omega.{arith}
use lib.Dec.{leb}
use lib.ListN.{length, get_or, take, drop, replicate, get_or-append}
use lib.Seq.{get_or-append-add, get_or-drop, take_at}
use borrow.Author.Tests.{le-leb}
use Rattle.reckoning.specs.Search.{pick}
use Rattle.reckoning.specs.Rule.{month_count}
use Rattle.reckoning.proofs.Searches.{through}
use Rattle.refusal.specs.declared.Refusal.{Refusal}
use Rattle.lunisolar.proofs.Laws.{year_at_lem, lunation_at_lem}
use Rattle.units.specs.Xinghe.{xinghe, rule, round_years, is_year}
use Rattle.calendar.specs.Heads.{head_of, head_for, year_head}
use Rattle.calendar.specs.Rows.{row_of, row_for}
use Rattle.calendar.specs.Answers.{zero_row}
use Rattle.calendar.specs.declared.YearHead.{YearHead}
use Rattle.calendar.specs.declared.MonthRow.{MonthRow}
use Rattle.calendar.proofs.Round.{head_months}
use Rattle.units.proofs.Years.{of_year}
use Rattle.year_list.specs.Filled.{answer_for, fill_answer, row_at, rows_from, to_write, filled, year_rows}
use Rattle.year_list.proofs.Fronts.{rows_length}

-- the numbers: 1 where the round has no such year, then 6 where the list is shorter than the year's month count
pub fill_numbers : (n have : ℕ) → answer_number (fill_answer n have) ≡ pick (is_year n) (pick (leb (month_count rule (n - 1)) have) 0 6) 1
unfolding head_for head_of answer_for
fill_numbers n have =
    of_year (λ a. answer_number (answer_for (head_for a) have)) n
    ∙ ap (λ (x : ℕ). pick (is_year n) x 1)
    (through answer_number (leb (month_count rule (n - 1)) have) (Ok (month_count rule (n - 1))) (Err Refusal.List))

row_in : (n p k i : ℕ) (d : MonthRow) → i < k → get_or (rows_from n p k) i d ≡ row_at n (p + i)
unfolding rows_from
row_in n p zero i d h = absurd (omega arith)
row_in n p (suc k) zero d h = rw (add-zero p)
row_in n p (suc k) (suc i) d h = let e : suc p + i ≡ p + suc i = omega arith in row_in n (suc p) k i d (omega arith) ∙ rw e

-- of a year of the round, in a list that can take it
module _ (y : ℕ) (rows : List MonthRow) (d : MonthRow) (in_round_lem : y < round_years) (room : month_count rule y ≤ length rows) where
  abbrev count : ℕ
  count = month_count rule y

  written_is : to_write (y + 1) (length rows) ≡ count
  unfolding answer_for head_for head_of
  written_is = rw (year_at_lem xinghe y in_round_lem, le-leb count (length rows) room)

  -- EACH ROW: the one at place p is the row of that month of the year
  pub each_row : (p : ℕ) → p < count → get_or (filled (y + 1) rows) p d ≡ row_of (rule.before y + p)
  unfolding row_for
  each_row p h =
      rw written_is
      (get_or-append (rows_from (y + 1) 0 count) (drop count rows) d p (omega (arith, rows_length (y + 1) 0 count))
      ∙ row_in (y + 1) 0 count p d h
      ∙ rw (zero-add p, lunation_at_lem xinghe y p in_round_lem h))

  -- ROWS PAST THE YEAR'S COUNT stay as they were
  pub rest_stays : (i : ℕ) → get_or (filled (y + 1) rows) (count + i) d ≡ get_or rows (count + i) d
  rest_stays i =
      rw written_is
      (ap (λ (k : ℕ). get_or (rows_from (y + 1) 0 count ++ drop count rows) (k + i) d) (rows_len)
      ∙ get_or-append-add (rows_from (y + 1) 0 count) (drop count rows) i d
      ∙ get_or-drop count rows i d)
    where
      rows_len : count ≡ length (rows_from (y + 1) 0 count)
      rows_len = omega (arith, rows_length (y + 1) 0 count)

-- REFUSED, the list is found as it was lent
pub untouched : (n : ℕ) (rows : List MonthRow) (e : Refusal) → fill_answer n (length rows) ≡ Err e → filled n rows ≡ rows
unfolding rows_from
untouched n rows e h = rw h

-- A YEAR BY VALUE has the year's rows at its front
pub front_rows : (n : ℕ) (head : YearHead) → Ok head ≡ year_head n → take head.months (year_rows n).rows ≡ rows_from n 0 head.months
unfolding answer_for
front_rows n head e =
    let w : to_write n 13 ≡ head.months = rw (← e, le-leb head.months 13 (head_months n head e)) in
    rw w (take_at (rows_from n 0 head.months) (drop head.months (replicate 13 zero_row)) head.months (rows_length n 0 head.months))
