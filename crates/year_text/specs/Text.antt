-- What the year printer prints (01, "Cases at the edges"): a head line, then per month the place, month number, L or -, day of the sixty,
-- remainder and length; or `refused` and the number, alone.
-- Assumes nothing.
use Rattle.std.specs.Prelude.{Result, Ok, Err, Bool, List, [], ◌∷◌, ◌++◌, ℕ}
use Rattle.reckoning.specs.Search.{pick}
use Rattle.refusal.specs.Numbers.{number_of}
use Rattle.refusal.specs.declared.Refusal.{Refusal}
use Rattle.lunisolar.specs.Sixty.{sexagenary_of}
use Rattle.calendar.specs.Heads.{year_head}
use Rattle.calendar.specs.declared.YearHead.{YearHead}
use Rattle.calendar.specs.declared.MonthRow.{MonthRow}
use Rattle.year_list.specs.Filled.{rows_from}
use Rattle.writing.specs.Written.{texts}
use Rattle.year_text.specs.Decimal.{decimal}

-- `year `, ` months `, ` leap `, `refused `
abbrev pub year_word : List ℕ
year_word = 121 ∷ 101 ∷ 97 ∷ 114 ∷ 32 ∷ []

abbrev pub months_word : List ℕ
months_word = 32 ∷ 109 ∷ 111 ∷ 110 ∷ 116 ∷ 104 ∷ 115 ∷ 32 ∷ []

abbrev pub leap_word : List ℕ
leap_word = 32 ∷ 108 ∷ 101 ∷ 97 ∷ 112 ∷ 32 ∷ []

abbrev pub refused_word : List ℕ
refused_word = 114 ∷ 101 ∷ 102 ∷ 117 ∷ 115 ∷ 101 ∷ 100 ∷ 32 ∷ []

-- a word and the number after it
abbrev pub named : List ℕ → ℕ → List ℕ
named word n = word ++ decimal n

-- a number and the byte after it: a space, or the end of a line
abbrev pub field : ℕ → ℕ → List ℕ
field n end = decimal n ++ (end ∷ [])

-- `L` for the leap month, else `-`
abbrev pub mark : Bool → ℕ
mark leap = pick leap 76 45

unfoldable pub head_line : ℕ → YearHead → List ℕ
head_line n head = named year_word n ++ named months_word head.months ++ named leap_word head.leap ++ (10 ∷ [])

unfoldable pub place_text : MonthRow → List ℕ
place_text row = field row.place 32 ++ field row.number 32 ++ (mark row.leap ∷ []) ++ (32 ∷ [])

unfoldable pub moon_text : MonthRow → List ℕ
moon_text row = field (sexagenary_of row.day) 32 ++ field row.remainder.parts 32 ++ field row.length 10

unfoldable pub month_line : MonthRow → List ℕ
month_line row = place_text row ++ moon_text row

-- the lines of rows, one after the other
abbrev pub row_lines : List MonthRow → List ℕ
row_lines rows = texts month_line rows

-- a refusal: the word and the number, alone
abbrev pub refusal_line : Refusal → List ℕ
refusal_line e = refused_word ++ field (number_of e) 10

-- a year's head line and the lines of its rows, by place
unfoldable pub text_for : ℕ → Result YearHead Refusal → List ℕ
text_for n (Ok head) = head_line n head ++ row_lines (rows_from n 0 head.months)
text_for n (Err e) = refusal_line e

abbrev pub text_of : ℕ → List ℕ
text_of n = text_for n (year_head n)
