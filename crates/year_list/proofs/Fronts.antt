-- The lent list with the year's first k rows at its front: how long it is, and what one row more does to it.
-- Assumes nothing.
use Rattle.calendar.specs.declared.YearHead.{YearHead}
use Rattle.std.specs.Prelude.{Result, Ok, Err}
use Rattle.std.specs.Result.{result_unwrap_or}
use mathlib.Core.Bool.{Bool, true, false}
use mathlib.Core.List.{List, [], ◌∷◌, ◌++◌, append_assoc}
use mathlib.Core.Path.{◌≡◌, refl, sym, ◌∙◌, ap}
use Prim.Native.Nat.{ℕ, zero, suc, ◌+◌, ◌-◌, ◌≤◌, ◌<◌}
use native.Mathlib.Nat.{add-zero, zero-add}
use native.Mathlib.Numerals.{add-one}
use native.Mathlib.Omega.{arith}
use lib.Dec.{leb}
use lib.ListN.{length, drop, set}
use lib.Seq.{drop-cons, set_at}
use borrow.Author.Tests.{leb-true}
use Rattle.reckoning.specs.Search.{pick}
use Rattle.refusal.specs.declared.Refusal.{Refusal}
use Rattle.lunisolar.proofs.Rounds.{in_round_lem}
use Rattle.units.specs.Xinghe.{xinghe, round_months}
use Rattle.units.proofs.Sound.{sound}
use Rattle.calendar.specs.Heads.{year_head}
use Rattle.calendar.specs.Answers.{zero_head}
use Rattle.calendar.specs.declared.MonthRow.{MonthRow}
use Rattle.calendar.proofs.Round.{head_stands}
use Rattle.year_list.specs.Filled.{answer_for, row_at, rows_from, to_write}

-- no more rows are written than the list has, nor than the year has months
written_of : (k have : ℕ) (b : Bool) → leb k have ≡ b → (let n = result_unwrap_or (pick b (Ok k) (Err Refusal.List)) 0 in (n ≤ have) × (n ≤ k))
written_of k have true e = (leb-true k have e, omega arith)
written_of k have false e = (omega arith, omega arith)

written_for : (a : Result YearHead Refusal) (have : ℕ) → (result_unwrap_or (answer_for a have) 0 ≤ have) × (result_unwrap_or (answer_for a have) 0 ≤ (result_unwrap_or a zero_head).months)
unfolding answer_for
written_for (Ok head) have = written_of head.months have (leb head.months have) refl
written_for (Err e) have = (omega arith, omega arith)

pub within : (n have : ℕ) → to_write n have ≤ have
within n have = (written_for (year_head n) have).0

pub below_months : (a : Result YearHead Refusal) (have i : ℕ) → i < result_unwrap_or (answer_for a have) 0 → i < (result_unwrap_or a zero_head).months
below_months a have i h = omega (arith, (written_for a have).1)

-- a head with a place below its month count is answered
pub has_head : (a : Result YearHead Refusal) (i : ℕ) → i < (result_unwrap_or a zero_head).months → Ok (result_unwrap_or a zero_head) ≡ a
has_head (Ok head) i h = refl
has_head (Err e) i h = absurd (omega arith)

abbrev pub front : ℕ → ℕ → List MonthRow → List MonthRow
front n k rows = rows_from n 0 k ++ drop k rows

pub rows_length : (n p k : ℕ) → length (rows_from n p k) ≡ k
unfolding rows_from
rows_length n p zero = refl
rows_length n p (suc k) = ap suc (rows_length n (suc p) k)

-- one row more at the end
rows_more : (n p k : ℕ) → rows_from n p (suc k) ≡ rows_from n p k ++ (row_at n (p + k) ∷ [])
unfolding rows_from
rows_more n p zero = rw (add-zero p)
rows_more n p (suc k) =
    let e : suc p + k ≡ p + suc k = omega arith in
    ap (λ (l : List MonthRow). row_at n p ∷ l) (rows_more n (suc p) k ∙ rw e)

pub one_more : (n k : ℕ) (rows : List MonthRow) (r : MonthRow) → k < length rows → r ≡ row_at n k → set (front n k rows) k r ≡ front n (k + 1) rows
one_more n k rows r h e =
    ap (λ (l : List MonthRow). set (rows_from n 0 k ++ l) k r) (drop-cons rows k r h)
    ∙ set_at (rows_from n 0 k) _ (drop (suc k) rows) r k (rows_length n 0 k)
    ∙ sym (append_assoc (rows_from n 0 k) (r ∷ []) (drop (suc k) rows))
    ∙ rw (e, add-one k, rows_more n 0 k, zero-add k)

-- each place of a year is that of a month of the round
pub month_in_round : (n : ℕ) (head : Result YearHead Refusal) (p : ℕ) → head ≡ year_head n → p < (result_unwrap_or head zero_head).months → (result_unwrap_or head zero_head).before + p < round_months
month_in_round n head p e h =
    in_round_lem xinghe sound (n - 1) p _ (head_stands n (result_unwrap_or head zero_head) (has_head head p h ∙ e) p h)
