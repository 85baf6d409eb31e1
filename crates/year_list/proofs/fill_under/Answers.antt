-- No more places are written than the list has, and each with the year's row.
use Rattle.std.specs.Prelude.{Result}
use Rattle.std.specs.Result.{result_unwrap_or}
use Rattle.refusal.specs.declared.Refusal.{Refusal}
use Rattle.calendar.specs.declared.YearHead.{YearHead}
use Prim.Native.Nat.{ℕ, ◌≤◌}
use mathlib.Core.List.{List, [], ◌++◌, append-nil}
use mathlib.Core.Path.{◌≡◌, refl, ap, ◌∙◌}
use native.Mathlib.Omega.{arith}
use lib.ListN.{length, take, drop, length-take, drop_of_length-le}
use Rattle.calendar.specs.Heads.{year_head}
use Rattle.calendar.specs.declared.MonthRow.{MonthRow}
use Rattle.year_list.specs.Filled.{answer_for, rows_from, to_write}
use Rattle.year_list.proofs.Fronts.{front, within, below_months, one_more}
use Rattle.year_list.proofs.fill_under.Goals as goal

-- the count that is written, by the year
counted : (n len k : ℕ) (h : Result YearHead Refusal) → h ≡ year_head n → k ≡ result_unwrap_or (answer_for h len) 0 → k ≡ to_write n len
counted n len k h e w = w ∙ ap (λ (a : Result YearHead Refusal). result_unwrap_or (answer_for a len) 0) e

room : (n len k : ℕ) (h : Result YearHead Refusal) → h ≡ year_head n → k ≡ result_unwrap_or (answer_for h len) 0 → k ≤ len
room n len k h e w = omega (arith, counted n len k h e w, within n len)

pub slice_bounds-row-items-end : goal.slice_bounds-row-items-end
slice_bounds-row-items-end c = room c.args.year (length c.args.rows.now) _ c.args.head c.requires c.to_write-n.ensures

pub slice_bounds-row-items-end-2 : goal.slice_bounds-row-items-end-2
slice_bounds-row-items-end-2 c =
    omega (arith, length-take {A = MonthRow}, room c.args.year (length c.args.rows.now) _ c.args.head c.requires c.to_write-n.ensures)

pub loop-i-init : goal.loop-i-init
unfolding rows_from
loop-i-init c = refl

pub row_at-requires : goal.row_at-requires
row_at-requires c =
    (c.requires, below_months c.args.head (length c.args.rows.now) c.loop-i.i (omega (arith, c.loop-i-test.true, c.to_write-n.ensures, length-take {A = MonthRow})))

pub loop-i-preserved : goal.loop-i-preserved
loop-i-preserved c =
    rw c.loop-i.invariant (one_more c.args.year c.loop-i.i (take c.to_write-n.result c.args.rows.now) c.row_at.result (omega arith) c.row_at.ensures)

pub returns : goal.returns
returns c =
    let rows = c.args.rows.now in
    let n = c.to_write-n.result in
    let len = length rows in
    let e = counted c.args.year len n c.args.head c.requires c.to_write-n.ensures in
    let long : length (take n rows) ≡ n = omega (arith, length-take {A = MonthRow}, room c.args.year len n c.args.head c.requires c.to_write-n.ensures) in
    let done : c.loop-i.i ≡ n = omega arith in
    let none : drop n (take n rows) ≡ [] = drop_of_length-le (take n rows) {i = n} (omega arith) in
    let all : c.loop-i.row-items ≡ rows_from c.args.year 0 n =
    c.loop-i.invariant ∙ ap (λ (k : ℕ). front c.args.year k (take n rows)) done ∙ ap (λ (l : List MonthRow). rows_from c.args.year 0 n ++ l) none ∙ append-nil (rows_from c.args.year 0 n) in (
      c.answer_for.ensures ∙ ap (λ (a : Result YearHead Refusal). answer_for a len) c.requires,
      rw all (ap (λ (k : ℕ). front c.args.year k rows) e),
    )
