-- The lines of the volume programs: the one that asks for a volume, and the one that tells a volume's years.
-- Assumes nothing.
use Rattle.std.specs.Prelude.{Result, Ok, Err, Option, None, Some, Bool, true, false, ◌||◌, List, [], ◌∷◌, ◌++◌, ℕ, eqb}
use Rattle.refusal.specs.declared.Refusal.{Refusal}
use Rattle.reckoning.specs.Search.{pick}
use Rattle.year_text.specs.Lines.{year_of_line, read_of, year_read, fed, is_settled}
use Rattle.year_text.specs.Text.{field, refusal_line}
use Rattle.volumes.specs.Writer.{span_answer}
use Rattle.year_text.specs.declared.reader.Reader.{Reader}
use Rattle.volume_text.specs.declared.reader.SpanReader.{SpanReader}

-- the bytes of a line before its first blank, and those after it
unfoldable pub before_blank : List ℕ → List ℕ
before_blank [] = []
before_blank (b ∷ bs) = pick (eqb b 32) [] (b ∷ before_blank bs)

unfoldable pub after_blank : List ℕ → List ℕ
after_blank [] = []
after_blank (b ∷ bs) = pick (eqb b 32) bs (after_blank bs)

-- the span that a line asks for: from the year before the first blank to the year after it; what is no number there is no year
abbrev pub span_of_line : List ℕ → Result ℕ Refusal
span_of_line line = span_answer (year_of_line (before_blank line)) (year_of_line (after_blank line))

-- a volume's years and a blank between them, or the refusal
abbrev pub years_line : Result (ℕ × ℕ) Refusal → List ℕ
years_line (Ok (first, last)) = field first 32 ++ field last 10
years_line (Err e) = refusal_line e

-- the reader's state after the bytes of a line so far
unfoldable pub has_blank : List ℕ → Bool
has_blank [] = false
has_blank (b ∷ bs) = pick (eqb b 32) true (has_blank bs)

-- what stands before the blank, and what stands after it, once it has come
unfoldable pub span_read : List ℕ → SpanReader
span_read bs = record { first = read_of (before_blank bs); last = pick (has_blank bs) (Some (read_of (after_blank bs))) None }

-- the year after the blank: 0, which is no year, where none has come
abbrev pub year_or_0 : Option Reader → ℕ
year_or_0 (Some s) = year_read s
year_or_0 None = 0

abbrev pub last_year : SpanReader → ℕ
last_year s = year_or_0 s.last

-- a state after one byte more
abbrev pub span_fed_at : Option Reader → Reader → ℕ → SpanReader
span_fed_at (Some last) first b = record { first = first; last = Some (fed last b) }
span_fed_at None first b = pick (eqb b 32) (record { first = first; last = Some (read_of []) }) (record { first = fed first b; last = None })

unfoldable pub span_fed : SpanReader → ℕ → SpanReader
span_fed s b = span_fed_at s.last s.first b

-- one of the two can't become a year of the round, whatever follows
abbrev pub settled_or_none : Option Reader → Bool
settled_or_none (Some s) = is_settled s
settled_or_none None = false

abbrev pub span_settled : SpanReader → Bool
span_settled s = is_settled s.first || settled_or_none s.last
