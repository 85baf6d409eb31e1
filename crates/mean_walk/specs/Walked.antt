-- A walk over a list of signed counts (01, "Walks"), in any calendar: its last month, the sum of the answered counts in whole numbers, and how many
-- were answered.
-- Assumes nothing.
use Rattle.std.specs.Prelude.{Result, List, ℕ, ℤ, pos}
use Rattle.refusal.specs.declared.Refusal.{Refusal}
use Rattle.lunisolar.specs.declared.Constants.{Constants}
use Rattle.walking.specs.Walk as any-walk
use Rattle.walking.specs.Fields.{walked_by}
use Rattle.walking.specs.declared.Walked.{Walked}
use Rattle.mean_calendar.specs.Months.{field_count, month_fields}
use Rattle.mean_calendar.specs.Answers.{zero_month}
use Rattle.mean_calendar.specs.Carries.{months_of}
use Rattle.mean_calendar.specs.declared.MeanMonth.{MeanMonth}

-- carry by carry: each is handed the month that the last answered one gave, at first the month that the walk starts from
abbrev pub walked : Constants → MeanMonth → List ℤ → Walked MeanMonth
walked k r cs = any-walk.walked (months_of k) r cs

-- a walk from a month that is not genuine is refused under 4
abbrev pub walk_answer : Constants → MeanMonth → List ℤ → Result (Walked MeanMonth) Refusal
walk_answer k r cs = any-walk.walk_answer (months_of k) r cs

-- a walk from a month handed in as numbers: from the month that they are, and refused under 4 where they are no genuine month's
abbrev pub walk_answer_fields : Constants → List ℕ → List ℤ → Result (Walked MeanMonth) Refusal
walk_answer_fields k f cs = walked_by (months_of k) field_count month_fields f cs

abbrev pub zero_walk : Walked MeanMonth
zero_walk = record { row = zero_month; sum = pos 0; answered = 0 }
