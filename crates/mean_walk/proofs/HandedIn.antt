-- Walks from months handed in as numbers: a month handed in as its own numbers is walked as the month is.
-- Assumes nothing.
use mathlib.Core.Path.{◌≡◌, refl}
use mathlib.Core.Bool.{Bool, true, false}
use mathlib.Core.List.{List}
use lib.IntN.{ℤ}
use Rattle.lunisolar.specs.declared.Constants.{Constants}
use Rattle.walking.specs.Walk.{genuine}
use Rattle.walking.proofs.Walks.{genuine_row}
use Rattle.mean_calendar.specs.Months.{month_fields}
use Rattle.mean_calendar.specs.Carries.{months_of}
use Rattle.mean_calendar.specs.declared.MeanMonth.{MeanMonth}
use Rattle.mean_calendar.proofs.Lawful.{lawful}
use Rattle.mean_walk.specs.Walked.{walk_answer, walk_answer_fields}

-- A MONTH HANDED IN AS ITS NUMBERS IS WALKED AS THE MONTH IS
pub walk_handed_in : (k : Constants) (r : MeanMonth) (cs : List ℤ) → walk_answer_fields k (month_fields r) cs ≡ walk_answer k r cs
walk_handed_in k r cs = go (genuine (months_of k) r) refl
  where
    go : (b : Bool) → genuine (months_of k) r ≡ b → walk_answer_fields k (month_fields r) cs ≡ walk_answer k r cs
    go true g = rw (← (genuine_row (months_of k) (lawful k) r g).1) refl
    go false g = rw g refl
