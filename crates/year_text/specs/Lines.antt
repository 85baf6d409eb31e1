-- The line that the year printer reads (01, "Cases at the edges").
-- Assumes nothing.
use Rattle.std.specs.Prelude.{Option, None, Some, unwrap_or, Bool, true, List, [], ◌∷◌, ℕ, suc, ◌+◌, ◌-◌, ◌*◌, min, eqb, ltb}
use Rattle.std.specs.declared.ops.ControlFlow.{ControlFlow}
use Rattle.std.specs.declared.ops.ControlFlow.TheVariants.{Break, Continue}
use Rattle.reckoning.specs.Search.{pick}
use Rattle.units.specs.Xinghe.{round_years}
use Rattle.year_text.specs.Decimal.{is_digit, all_digits, value}
use Rattle.year_text.specs.declared.reader.Reader.{Reader}

-- the line ends at the first newline byte or at the end of the input
unfoldable pub line_of : List ℕ → List ℕ
line_of [] = []
line_of (b ∷ bs) = pick (eqb b 10) [] (b ∷ line_of bs)

-- the year that a line asks for: its number, however many zeros lead it; 0, which is no year, where it is empty or holds any byte but a digit
abbrev pub year_of_line : List ℕ → ℕ
year_of_line bs = pick (all_digits bs) (value bs) 0

-- one past every year of the round, which stands for all that are past it
abbrev pub past_round : ℕ
past_round = suc round_years

-- the reader's state after the bytes of a line so far: where all were digits their number, or one past every year where it is more; else nothing
abbrev pub not_digits : Reader
not_digits = record { number = None }

abbrev pub digits_of : ℕ → Reader
digits_of n = record { number = Some (min n past_round) }

unfoldable pub read_of : List ℕ → Reader
read_of bs = pick (all_digits bs) (digits_of (value bs)) not_digits

-- the year of a line that ends there: 0, which is no year, where not all were digits
abbrev pub year_read : Reader → ℕ
year_read s = unwrap_or s.number 0

-- a state after one byte more
abbrev pub fed_number : Option ℕ → ℕ → Reader
fed_number (Some n) b = pick (is_digit b) (digits_of (10 * n + (b - 48))) not_digits
fed_number None b = not_digits

unfoldable pub fed : Reader → ℕ → Reader
fed s b = fed_number s.number b

-- the line so far can't become a year of the round, whatever follows: it has a byte that is no digit, or its number is past the round
abbrev pub past_or_none : Option ℕ → Bool
past_or_none (Some n) = ltb round_years n
past_or_none None = true

abbrev pub is_settled : Reader → Bool
is_settled s = past_or_none s.number

-- what a byte more makes of a line: the year that it asks for, where it ends or is settled, or the state that reads on
unfoldable pub stepped : Reader → ℕ → ControlFlow ℕ Reader
stepped s b = pick (eqb b 10) (Break (year_read s)) (pick (is_settled (fed s b)) (Break (year_read (fed s b))) (Continue (fed s b)))

-- the year that an input asks for, read byte by byte from a state on; where the input ends, that of the bytes so far
abbrev pub year_or : ControlFlow ℕ Reader → (Reader → ℕ) → ℕ
year_or (Break y) f = y
year_or (Continue s) f = f s

unfoldable pub asked : Reader → List ℕ → ℕ
asked s [] = year_read s
asked s (b ∷ bs) = year_or (stepped s b) (λ t. asked t bs)
