-- The printer's text fits its buffer; what is no year has the text of any other that is none; and when a line is settled.
-- Assumes nothing.
use Rattle.calendar.specs.declared.YearHead.{YearHead}
use Rattle.std.specs.Prelude.{Result, Ok, Err}
use Rattle.refusal.specs.declared.Refusal.{Refusal}
use mathlib.Core.Path.{◌≡◌, refl, sym, ap, ◌∙◌}
use mathlib.Core.Bool.{Bool, true, false, ◌&&◌}
use mathlib.Core.Logic.{⊎_elim}
use mathlib.Core.List.{List, [], ◌∷◌, ◌++◌, append_assoc, append-nil}
use Prim.Native.Nat.{ℕ, suc, ◌+◌, ◌-◌, ◌*◌, ◌≤◌, ◌<◌, min}
use native.Mathlib.Omega.{arith}
use borrow.Author.Tests.{ltb-true}
use lib.Dec.{eqb}
use lib.ListN.{length, length-append}
use Rattle.std.specs.declared.ops.ControlFlow.TheVariants.{Break, Continue}
use Rattle.reckoning.specs.Search.{pick}
use Rattle.reckoning.proofs.Searches.{le_or_lt, below, beyond}
use Rattle.refusal.specs.Numbers.{number_of}
use Rattle.lunisolar.specs.Calendars.{year_at}
use Rattle.units.specs.Xinghe.{round_years, is_year}
use Rattle.calendar.specs.Heads.{head_for, year_head}
use Rattle.calendar.specs.declared.MonthRow.{MonthRow}
use Rattle.calendar.proofs.Round.{head_months}
use Rattle.year_list.specs.Filled.{rows_from}
use Rattle.year_list.proofs.Fronts.{rows_length}
use Rattle.year_text.specs.Decimal.{is_digit, all_digits, value_from, value}
use Rattle.year_text.specs.Lines.{past_round, not_digits, digits_of, read_of, year_read, fed, is_settled, line_of, year_of_line, stepped, year_or, asked}
use Rattle.year_text.specs.Text.{field, head_line, row_lines, refused_word, text_for, text_of}
use Rattle.year_text.specs.declared.reader.Reader.{Reader}
use Rattle.year_text.proofs.Readings.{fed_read, line_year}
use Rattle.year_text.proofs.Lengths.{field_length, head_length, lines_length}

pub text_fits : (n : ℕ) → length (text_of n) ≤ 2048
unfolding text_for
text_fits n = go (year_head n) refl
  where
    go : (a : Result YearHead Refusal) → a ≡ year_head n → length (text_for n a) ≤ 2048
    go (Ok head) e =
        let rows : List MonthRow = rows_from n 0 head.months in
        omega (arith, length-append (head_line n head) (row_lines rows), head_length n head, lines_length rows, rows_length n 0 head.months, head_months n head e)
    go (Err x) e = omega (arith, length-append refused_word (field (number_of x) 10), field_length (number_of x) 10)

-- WHAT IS NO YEAR has the text of year 0, which is none
no_year : (n : ℕ) → is_year n ≡ false → text_of n ≡ text_of 0
unfolding year_at head_for text_for
no_year n e = rw (e, below 1 0 (suc round_years) (omega arith))

past_year : (n : ℕ) → round_years < n → is_year n ≡ false
past_year n h = beyond 1 n (suc round_years) (omega arith)

pub capped_text : (n : ℕ) → text_of (min n past_round) ≡ text_of n
capped_text n =
    ⊎_elim
    (λ (h : n ≤ round_years). let e : min n past_round ≡ n = omega arith in rw e)
    (λ (h : round_years < n). let e : min n past_round ≡ past_round = omega arith in rw e (no_year past_round (past_year past_round (omega arith)) ∙ sym (no_year n (past_year n h))))
    (le_or_lt n round_years)

-- digits with more behind them mean no less
value_from_lem : (v : ℕ) (cs : List ℕ) → v ≤ value_from v cs
unfolding value_from
value_from_lem v [] = omega arith
value_from_lem v (c ∷ cs) = omega (arith, value_from_lem (10 * v + (c - 48)) cs)

value_past : (v : ℕ) (bs cs : List ℕ) → value_from v bs ≤ value_from v (bs ++ cs)
unfolding value_from
value_past v [] cs = value_from_lem v cs
value_past v (b ∷ bs) cs = value_past (10 * v + (b - 48)) bs cs

not_all : (bs cs : List ℕ) → all_digits bs ≡ false → all_digits (bs ++ cs) ≡ false
unfolding all_digits
not_all [] cs e = let bad : ◌≡◌ {A = ℕ} 0 1 = cc in absurd (omega arith)
not_all (b ∷ bs) cs e = go (is_digit b) (not_all bs cs) e
  where
    go : (t : Bool) → (all_digits bs ≡ false → all_digits (bs ++ cs) ≡ false) → (t && all_digits bs) ≡ false → (t && all_digits (bs ++ cs)) ≡ false
    go true after h = after h
    go false after h = refl

-- SETTLED: once a line can't become a year of the round, it asks for none, whatever follows
pub settled_none : (bs cs : List ℕ) → is_settled (read_of bs) ≡ true → is_year (year_of_line (bs ++ cs)) ≡ false
unfolding read_of
settled_none bs cs e = go (all_digits bs) refl e
  where
    longer : (t : Bool) → round_years < value bs → is_year (pick t (value (bs ++ cs)) 0) ≡ false
    longer true h = past_year (value (bs ++ cs)) (omega (arith, value_past 0 bs cs))
    longer false h = below 1 0 (suc round_years) (omega arith)

    go : (t : Bool) → all_digits bs ≡ t → is_settled (pick t (digits_of (value bs)) not_digits) ≡ true → is_year (year_of_line (bs ++ cs)) ≡ false
    go true q h = longer (all_digits (bs ++ cs)) (omega (arith, ltb-true round_years (min (value bs) past_round) h))
    go false q h = rw (not_all bs cs q) (below 1 0 (suc round_years) (omega arith))

-- a line that has ended
ended : (bs : List ℕ) → text_of (year_read (read_of bs)) ≡ text_of (year_of_line (bs ++ []))
ended bs = rw (append-nil bs, line_year bs) (capped_text (year_of_line bs))

-- so its text is the same
settled_text : (bs cs : List ℕ) → is_settled (read_of bs) ≡ true → text_of (year_of_line (bs ++ cs)) ≡ text_of (year_read (read_of bs))
settled_text bs cs e = no_year (year_of_line (bs ++ cs)) (settled_none bs cs e) ∙ sym (ended bs ∙ no_year (year_of_line (bs ++ [])) (settled_none bs [] e))

-- AS IT IS READ: the year that is asked byte by byte has the text of the year that the first line asks for
read_line : (bs cs : List ℕ) → text_of (asked (read_of bs) cs) ≡ text_of (year_of_line (bs ++ line_of cs))
unfolding asked line_of stepped
read_line bs [] = ended bs
read_line bs (c ∷ cs) = go (eqb c 10) (is_settled (fed (read_of bs) c)) refl (read_line (bs ++ c ∷ []) cs)
  where
    after : Reader → ℕ
    after t = asked t cs

    longer : (bs ++ c ∷ []) ++ line_of cs ≡ bs ++ c ∷ line_of cs
    longer = append_assoc bs (c ∷ []) (line_of cs)

    go : (n t : Bool) → is_settled (fed (read_of bs) c) ≡ t → text_of (asked (read_of (bs ++ c ∷ [])) cs) ≡ text_of (year_of_line ((bs ++ c ∷ []) ++ line_of cs)) →
        text_of (year_or (pick n (Break (year_read (read_of bs))) (pick t (Break (year_read (fed (read_of bs) c))) (Continue (fed (read_of bs) c)))) after) ≡ text_of (year_of_line (bs ++ pick n [] (c ∷ line_of cs)))
    go true true e on = ended bs
    go true false e on = ended bs
    go false true e on = rw (fed_read bs c) (sym (settled_text (bs ++ c ∷ []) (line_of cs) (rw (fed_read bs c) at e)) ∙ ap (λ (l : List ℕ). text_of (year_of_line l)) longer)
    go false false e on = rw (fed_read bs c) (on ∙ ap (λ (l : List ℕ). text_of (year_of_line l)) longer)

pub asked_text : (input : List ℕ) → text_of (asked (read_of []) input) ≡ text_of (year_of_line (line_of input))
asked_text input = read_line [] input
