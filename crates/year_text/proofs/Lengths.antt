-- How long the printer's texts are at the most.
-- Assumes nothing.
use mathlib.Core.List.{List, [], ◌∷◌, ◌++◌}
use Prim.Native.Nat.{ℕ, ◌+◌, ◌*◌, ◌≤◌}
use native.Mathlib.Omega.{arith}
use lib.ListN.{length, length-append}
use Rattle.lunisolar.specs.Sixty.{sexagenary_of}
use Rattle.calendar.specs.declared.YearHead.{YearHead}
use Rattle.calendar.specs.declared.MonthRow.{MonthRow}
use Rattle.year_text.specs.Decimal.{decimal}
use Rattle.year_text.specs.Text.{field, named, mark, head_line, place_text, moon_text, month_line, row_lines, year_word, months_word, leap_word}
use Rattle.writing.proofs.Writings.{texts_length}
use Rattle.year_text.proofs.Decimals.{at_most_20}

pub field_length : (n end : ℕ) → length (field n end) ≤ 21
field_length n end = omega (arith, length-append (decimal n) (end ∷ []), at_most_20 n)

pub named_length : (word : List ℕ) (n : ℕ) → length (named word n) ≤ length word + 20
named_length word n = omega (arith, length-append word (decimal n), at_most_20 n)

pub place_length : (row : MonthRow) → length (place_text row) ≤ 44
unfolding place_text
place_length row =
    let a : List ℕ = field row.place 32 in
    let b : List ℕ = field row.number 32 in
    let m : List ℕ = mark row.leap ∷ [] in
    omega (
      arith,
      length-append (a ++ b ++ m) (32 ∷ []),
      length-append (a ++ b) m,
      length-append a b,
      field_length row.place 32,
      field_length row.number 32,
    )

pub moon_length : (row : MonthRow) → length (moon_text row) ≤ 63
unfolding moon_text
moon_length row =
    let a : List ℕ = field (sexagenary_of row.day) 32 in
    let b : List ℕ = field row.remainder.parts 32 in
    let d : List ℕ = field row.length 10 in
    omega (
      arith,
      length-append (a ++ b) d,
      length-append a b,
      field_length (sexagenary_of row.day) 32,
      field_length row.remainder.parts 32,
      field_length row.length 10,
    )

pub month_length : (row : MonthRow) → length (month_line row) ≤ 107
unfolding month_line
month_length row = omega (arith, length-append (place_text row) (moon_text row), place_length row, moon_length row)

pub head_length : (n : ℕ) (head : YearHead) → length (head_line n head) ≤ 100
unfolding head_line
head_length n head =
    let a : List ℕ = named year_word n in
    let b : List ℕ = named months_word head.months in
    let d : List ℕ = named leap_word head.leap in
    omega (
      arith,
      length-append (a ++ b ++ d) (10 ∷ []),
      length-append (a ++ b) d,
      length-append a b,
      named_length year_word n,
      named_length months_word head.months,
      named_length leap_word head.leap,
    )

-- at most 107 bytes a row
pub lines_length : (rows : List MonthRow) → length (row_lines rows) ≤ 107 * length rows
lines_length rows = texts_length month_line 107 month_length rows
