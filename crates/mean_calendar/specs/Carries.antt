-- Months carried by signed counts (01, "Walks"): the carry of any calendar of a round, at its constants.
-- Assumes nothing.
use Rattle.std.specs.Prelude.{Result, Bool, List, ℕ, ℤ}
use Rattle.refusal.specs.declared.Refusal.{Refusal}
use Rattle.lunisolar.specs.declared.Constants.{Constants}
use Rattle.walking.specs.Walk.{Calendar, carry}
use Rattle.walking.specs.Fields.{same_fields, genuine_by, carried_by}
use Rattle.mean_calendar.specs.Months.{field_count, month_fields, month_of}
use Rattle.mean_calendar.specs.declared.MeanMonth.{MeanMonth}

-- the months of the calendar's years; two are the same where they are so in every field
abbrev pub months_of : Constants → Calendar MeanMonth
months_of k = record { size = k.lunations; row = month_of k; month = λ r. r.lunation; same = λ r s. same_fields field_count (month_fields r) (month_fields s) }

-- the carry of a month by a count
abbrev pub carried : Constants → MeanMonth → ℤ → Result MeanMonth Refusal
carried k r c = carry (months_of k) r c

-- a month handed in as numbers: whether it is genuine, and its carry by a count
abbrev pub genuine_fields : Constants → List ℕ → Bool
genuine_fields k f = genuine_by (months_of k) field_count month_fields f

abbrev pub carried_fields : Constants → List ℕ → ℤ → Result MeanMonth Refusal
carried_fields k f c = carried_by (months_of k) field_count month_fields f c
