-- A line with a byte more, and which year a whole line asks for.
-- Assumes nothing.
use mathlib.Core.Path.{◌≡◌, refl, sym, ap, ◌∙◌}
use mathlib.Core.Bool.{Bool, true, false, ◌&&◌}
use mathlib.Core.List.{List, [], ◌∷◌, ◌++◌}
use Prim.Native.Nat.{ℕ, ◌+◌, ◌-◌, ◌*◌, ◌≤◌, ◌<◌, min}
use native.Mathlib.Numerals.{add-one}
use native.Mathlib.Omega.{arith}
use lib.ListN.{length, get_or, drop, drop_of_length-le}
use lib.Seq.{drop-cons}
use Rattle.std.specs.declared.ops.ControlFlow.{ControlFlow}
use Rattle.std.specs.declared.ops.ControlFlow.TheVariants.{Break, Continue}
use Rattle.reckoning.specs.Search.{pick}
use Rattle.reckoning.proofs.Searches.{below, beyond, inside}
use Rattle.year_text.specs.Decimal.{is_digit, all_digits, value_from, value}
use Rattle.year_text.specs.Lines.{past_round, not_digits, digits_of, read_of, year_read, fed_number, fed, year_of_line, stepped, year_or, asked}
use Rattle.year_text.specs.declared.reader.Reader.{Reader}

-- a byte more at the end
pub all_more : (bs : List ℕ) (b : ℕ) → all_digits (bs ++ b ∷ []) ≡ (all_digits bs && is_digit b)
unfolding all_digits
all_more [] b = go (is_digit b)
  where
    go : (t : Bool) → (t && true) ≡ t
    go true = refl
    go false = refl
all_more (x ∷ bs) b = go (is_digit x) (all_more bs b)
  where
    go : (t : Bool) → all_digits (bs ++ b ∷ []) ≡ (all_digits bs && is_digit b) → (t && all_digits (bs ++ b ∷ [])) ≡ ((t && all_digits bs) && is_digit b)
    go true e = e
    go false e = refl

pub value_more : (bs : List ℕ) (v b : ℕ) → value_from v (bs ++ b ∷ []) ≡ 10 * value_from v bs + (b - 48)
unfolding value_from
value_more [] v b = refl
value_more (x ∷ bs) v b = value_more bs (10 * v + (x - 48)) b

-- THE READER'S STEP: a state that stands for the bytes so far, fed with a byte more, stands for those and the byte
pub fed_read : (bs : List ℕ) (b : ℕ) → fed (read_of bs) b ≡ read_of (bs ++ b ∷ [])
unfolding read_of fed
fed_read bs b = rw (all_more bs b) (go (all_digits bs) (is_digit b) refl)
  where
    capped : min (10 * min (value bs) past_round + (b - 48)) past_round ≡ min (value_from 0 (bs ++ b ∷ [])) past_round
    capped = rw (value_more bs 0 b) (omega arith)

    go : (t d : Bool) → is_digit b ≡ d → fed_number (pick t (digits_of (value bs)) not_digits).number b ≡ pick (t && d) (digits_of (value_from 0 (bs ++ b ∷ []))) not_digits
    go true true e = rw (e, capped)
    go true false e = rw e
    go false true e = refl
    go false false e = refl

-- A LINE'S YEAR: the reader ends with the year that the line asks for, or with one past every year where that is more
pub line_year : (bs : List ℕ) → year_read (read_of bs) ≡ min (year_of_line bs) past_round
unfolding read_of
line_year bs = go (all_digits bs)
  where
    go : (t : Bool) → year_read (pick t (digits_of (value bs)) not_digits) ≡ min (pick t (value bs) 0) past_round
    go true = refl
    go false = refl

-- the tests of a byte
pub digit : (b : ℕ) → 48 ≤ b → b ≤ 57 → is_digit b ≡ true
unfolding is_digit
digit b lo hi = inside 48 b 58 lo (omega arith)

pub too_low : (b : ℕ) → b < 48 → is_digit b ≡ false
unfolding is_digit
too_low b h = below 48 b 58 h

pub too_high : (b : ℕ) → 57 < b → is_digit b ≡ false
unfolding is_digit
too_high b h = beyond 48 b 58 (omega arith)

-- an input that is read byte by byte: what is left to read, from where it stands, asks for the year of the whole
pub record Sofar (input : List ℕ) (s : Reader) (i : ℕ) : Type 0 where
  pub index : i ≤ length input
  pub same : asked s (drop i input) ≡ asked (read_of []) input

pub sofar_start : (input : List ℕ) (s : Reader) → s ≡ read_of [] → Sofar input s 0
sofar_start input s e = record { index = omega arith; same = rw e }

module _ (input : List ℕ) (s : Reader) (i : ℕ) (f : Sofar input s i) where
  -- one byte more
  next : i < length input → year_or (stepped s (get_or input i 0)) (λ t. asked t (drop (i + 1) input)) ≡ asked (read_of []) input
  unfolding asked
  next h =
      let rest : drop i input ≡ get_or input i 0 ∷ drop (i + 1) input = rw (add-one i) (drop-cons input i 0 h) in
      ap (asked s) (sym rest) ∙ f.same

  pub sofar_year : (y : ℕ) → i < length input → Break y ≡ stepped s (get_or input i 0) → y ≡ asked (read_of []) input
  sofar_year y h e = ap (λ (x : ControlFlow ℕ Reader). year_or x (λ t. asked t (drop (i + 1) input))) e ∙ next h

  pub sofar_more : (t : Reader) → i < length input → Continue t ≡ stepped s (get_or input i 0) → Sofar input t (i + 1)
  sofar_more t h e = record { index = omega arith; same = ap (λ (x : ControlFlow ℕ Reader). year_or x (λ u. asked u (drop (i + 1) input))) e ∙ next h }

  pub sofar_end : length input ≤ i → year_read s ≡ asked (read_of []) input
  unfolding asked
  sofar_end h = ap (asked s) (sym (drop_of_length-le input h)) ∙ f.same
