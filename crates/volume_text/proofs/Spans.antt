-- A line with a byte more, and which span a whole line asks for.
-- Assumes nothing.
use Rattle.std.specs.Prelude.{Err, None, Some}
use mathlib.Core.Path.{◌≡◌, refl, sym, ap, ◌∙◌}
use mathlib.Core.Bool.{Bool, true, false, ◌&&◌, ◌||◌}
use mathlib.Core.Logic.{⊎_elim}
use mathlib.Core.List.{List, [], ◌∷◌, ◌++◌, append-nil}
use Prim.Native.Nat.{ℕ, ◌≤◌, ◌<◌, min}
use native.Mathlib.Omega.{arith}
use lib.Dec.{T, eqb}
use Rattle.reckoning.specs.Search.{pick}
use Rattle.reckoning.proofs.Searches.{T_false, le_or_lt, both_left, both_right}
use Rattle.refusal.specs.declared.Refusal.{Refusal}
use Rattle.units.specs.Xinghe.{round_years, is_year}
use Rattle.volumes.specs.Writer.{span_answer}
use Rattle.volumes.proofs.Runs.{year_high}
use Rattle.year_text.specs.Decimal.{all_digits, value_from}
use Rattle.year_text.specs.Lines.{past_round, read_of, year_read, is_settled, year_of_line}
use Rattle.year_text.proofs.Readings.{fed_read, line_year}
use Rattle.year_text.proofs.Fits.{settled_none}
use Rattle.volume_text.specs.Lines.{before_blank, after_blank, has_blank, span_of_line, span_read, year_or_0, last_year, span_fed_at, span_fed, settled_or_none, span_settled}
use Rattle.volume_text.specs.declared.reader.SpanReader.{SpanReader}

-- a line that goes on
module _ (cs : List ℕ) where
  blank_on : (bs : List ℕ) → has_blank (bs ++ cs) ≡ pick (has_blank bs) true (has_blank cs)
  unfolding has_blank
  blank_on [] = refl
  blank_on (x ∷ bs) = go (eqb x 32) (blank_on bs)
    where
      go : (t : Bool) → has_blank (bs ++ cs) ≡ pick (has_blank bs) true (has_blank cs) → pick t true (has_blank (bs ++ cs)) ≡ pick (pick t true (has_blank bs)) true (has_blank cs)
      go true e = refl
      go false e = e

  before_on : (bs : List ℕ) → before_blank (bs ++ cs) ≡ before_blank bs ++ pick (has_blank bs) [] (before_blank cs)
  unfolding has_blank before_blank
  before_on [] = refl
  before_on (x ∷ bs) = go (eqb x 32) (before_on bs)
    where
      go : (t : Bool) → before_blank (bs ++ cs) ≡ before_blank bs ++ pick (has_blank bs) [] (before_blank cs) → pick t [] (x ∷ before_blank (bs ++ cs)) ≡ pick t [] (x ∷ before_blank bs) ++ pick (pick t true (has_blank bs)) [] (before_blank cs)
      go true e = refl
      go false e = ap (λ (l : List ℕ). x ∷ l) e

  after_on : (bs : List ℕ) → after_blank (bs ++ cs) ≡ pick (has_blank bs) (after_blank bs ++ cs) (after_blank cs)
  unfolding has_blank after_blank
  after_on [] = refl
  after_on (x ∷ bs) = go (eqb x 32) (has_blank bs) (after_on bs)
    where
      go : (t u : Bool) → after_blank (bs ++ cs) ≡ pick u (after_blank bs ++ cs) (after_blank cs) → pick t (bs ++ cs) (after_blank (bs ++ cs)) ≡ pick (pick t true u) (pick t bs (after_blank bs) ++ cs) (after_blank cs)
      go true u e = refl
      go false true e = e
      go false false e = e

-- without a blank nothing stands after it
none_after : (bs : List ℕ) → has_blank bs ≡ false → after_blank bs ≡ []
unfolding has_blank after_blank
none_after [] e = refl
none_after (x ∷ bs) e = go (eqb x 32) e (none_after bs)
  where
    go : (t : Bool) → pick t true (has_blank bs) ≡ false → (has_blank bs ≡ false → after_blank bs ≡ []) → pick t bs (after_blank bs) ≡ []
    go true e h = let bad : ◌≡◌ {A = ℕ} 0 1 = cc in absurd (omega arith)
    go false e h = h e

-- THE READER'S STEP: a state that stands for the bytes so far, fed with a byte more, stands for those and the byte
pub span_fed_lem : (bs : List ℕ) (b : ℕ) → span_fed (span_read bs) b ≡ span_read (bs ++ b ∷ [])
unfolding span_read span_fed has_blank before_blank after_blank
span_fed_lem bs b = rw (blank_on (b ∷ []) bs, before_on (b ∷ []) bs, after_on (b ∷ []) bs) (go (has_blank bs) refl (eqb b 32) refl)
  where
    read : (t u : Bool) → SpanReader
    read t u = record { first = read_of (before_blank bs ++ pick t [] (pick u [] (b ∷ []))); last = pick (pick t true (pick u true false)) (Some (read_of (pick t (after_blank bs ++ b ∷ []) (pick u [] [])))) None }

    go : (t : Bool) → has_blank bs ≡ t → (u : Bool) → eqb b 32 ≡ u → span_fed_at (pick t (Some (read_of (after_blank bs))) None) (read_of (before_blank bs)) b ≡ read t u
    go true e u w = rw (fed_read (after_blank bs) b, append-nil (before_blank bs))
    go false e true w = rw (w, append-nil (before_blank bs))
    go false e false w = rw (w, fed_read (before_blank bs) b)

-- no span where one of the two is no year
no_span : (a b : ℕ) → ¬ (T (is_year a && is_year b)) → span_answer a b ≡ Err Refusal.Year
unfolding span_answer
no_span a b h = rw (T_false (is_year a && is_year b) h)

past_first : (a b : ℕ) → round_years < a → span_answer a b ≡ Err Refusal.Year
past_first a b h = no_span a b (λ t. omega (arith, year_high a (both_left (is_year a) (is_year b) t)))

past_last : (a b : ℕ) → round_years < b → span_answer a b ≡ Err Refusal.Year
past_last a b h = no_span a b (λ t. omega (arith, year_high b (both_right (is_year a) (is_year b) t)))

-- one past every year stands for all that are past it
capped : (a b : ℕ) → span_answer (min a past_round) (min b past_round) ≡ span_answer a b
capped a b =
    ⊎_elim
    (λ (h : a ≤ round_years). ⊎_elim
    (λ (k : b ≤ round_years). let e : min a past_round ≡ a = omega arith in let f : min b past_round ≡ b = omega arith in rw (e, f))
    (λ (k : round_years < b). past_last (min a past_round) (min b past_round) (omega arith) ∙ sym (past_last a b k))
    (le_or_lt b round_years))
    (λ (h : round_years < a). past_first (min a past_round) (min b past_round) (omega arith) ∙ sym (past_first a b h))
    (le_or_lt a round_years)

-- the year after the blank, and 0 where there is none
last : (bs : List ℕ) → last_year (span_read bs) ≡ min (year_of_line (after_blank bs)) past_round
unfolding span_read all_digits value_from
last bs = go (has_blank bs) refl
  where
    go : (t : Bool) → has_blank bs ≡ t → year_or_0 (pick t (Some (read_of (after_blank bs))) None) ≡ min (year_of_line (after_blank bs)) past_round
    go true e = line_year (after_blank bs)
    go false e = rw (none_after bs e)

-- A LINE'S SPAN: the reader ends with the years whose span the line asks for
pub span_line : (bs : List ℕ) → span_answer (year_read (span_read bs).first) (last_year (span_read bs)) ≡ span_of_line bs
unfolding span_read
span_line bs = rw (line_year (before_blank bs), last bs) (capped (year_of_line (before_blank bs)) (year_of_line (after_blank bs)))

none : (t : Bool) → t ≡ false → ¬ (T t)
none b e t = rw e at t

-- SETTLED: once one of the two can't become a year of the round, the line asks for no span, whatever follows
pub span_settled_lem : (bs cs : List ℕ) → span_settled (span_read bs) ≡ true → span_of_line (bs ++ cs) ≡ Err Refusal.Year
unfolding span_read
span_settled_lem bs cs e = go (is_settled (read_of (before_blank bs))) refl (has_blank bs) refl e
  where
    a : ℕ
    a = year_of_line (before_blank (bs ++ cs))

    b : ℕ
    b = year_of_line (after_blank (bs ++ cs))

    go : (t : Bool) → is_settled (read_of (before_blank bs)) ≡ t → (u : Bool) → has_blank bs ≡ u → (t || settled_or_none (pick u (Some (read_of (after_blank bs))) None)) ≡ true → span_answer a b ≡ Err Refusal.Year
    go true q u w e =
        no_span a b (λ t. none (is_year a) (rw (before_on cs bs) (settled_none (before_blank bs) (pick (has_blank bs) [] (before_blank cs)) q)) (both_left (is_year a) (is_year b) t))
    go false q true w e =
        let after : after_blank (bs ++ cs) ≡ after_blank bs ++ cs = after_on cs bs ∙ ap (λ (t : Bool). pick t (after_blank bs ++ cs) (after_blank cs)) w in
        no_span a b (λ t. none (is_year b) (rw after (settled_none (after_blank bs) cs e)) (both_right (is_year a) (is_year b) t))
    go false q false w e = let bad : ◌≡◌ {A = ℕ} 0 1 = cc in absurd (omega arith)
