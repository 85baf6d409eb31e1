-- The number of each refusal, as 01 "Numbers returned" and 02 have them: 3 is 01's for the day of a month and 02 §3's for a day of the sixty; 2 and 6 are
-- 01's for a place and a list, and 02 §6's for a span and a buffer.
-- Assumes nothing.
use Rattle.std.specs.Prelude.{ℕ, Result, Ok, Err}
use Rattle.refusal.specs.declared.Refusal.{Refusal}
use Rattle.refusal.specs.declared.Refusal.TheVariants.{Year, Place, DayOfMonth, Row, Carry, List, Day, Cut, Planet, DayOfSixty, Names, Span, Room, Volume, Block, FirstYear}

abbrev pub number_of : Refusal → ℕ
number_of Year = 1
number_of Place = 2
number_of DayOfMonth = 3
number_of Row = 4
number_of Carry = 5
number_of List = 6
number_of Day = 7
number_of Cut = 8
number_of Planet = 9
number_of DayOfSixty = 3
number_of Names = 10
number_of Span = 2
number_of Room = 6
number_of Volume = 11
number_of Block = 12
number_of FirstYear = 13

-- the number of a job's answer: 0 where it answers
abbrev pub answer_number : {T : Type 0} → Result T Refusal → ℕ
answer_number (Ok x) = 0
answer_number (Err e) = number_of e
