-- The planets' jobs (02 §1), on all inputs.
-- Assumes nothing.
use Rattle.std.specs.Result.{result_unwrap_or}
use Rattle.planets.specs.declared.TwoConjunctions.{TwoConjunctions}
use Rattle.std.specs.Prelude.{Result, Ok, Err, ℕ, length}
use Rattle.reckoning.specs.Search.{pick}
use Rattle.refusal.specs.declared.Refusal.{Refusal}
use Rattle.lunisolar.specs.Calendars.{year_at}
use Rattle.units.specs.Xinghe.{xinghe}
use Rattle.planets.specs.Planets.{is_planet, planet_of}
use Rattle.planets.specs.Answers.{conjunctions_of}
use Rattle.planets.specs.Stages.{no_stages, in_room, stages_of}
use Rattle.planets.specs.declared.StageList.{StageList}

-- of planet p and the year with y years past: refused under 9 for a planet outside 1 to 5
unfoldable pub conjunctions_in : ℕ → ℕ → Result TwoConjunctions Refusal
conjunctions_in y p =
    pick (is_planet p) (Ok (conjunctions_of (planet_of p) y)) (Err Refusal.Planet)

-- of year n as it is written: refused under 1 first
unfoldable pub conjunctions_for : Result ℕ Refusal → ℕ → Result TwoConjunctions Refusal
conjunctions_for (Ok y) p = conjunctions_in y p
conjunctions_for (Err e) p = Err e

abbrev pub conjunctions_at : ℕ → ℕ → Result TwoConjunctions Refusal
conjunctions_at n p = conjunctions_for (year_at xinghe n) p

-- all stages of planet p, and their count: refused under 9 for a planet outside 1 to 5
unfoldable pub stages_at : ℕ → Result StageList Refusal
stages_at p = pick (is_planet p) (Ok (record { count = length (stages_of p); stages = in_room (stages_of p) })) (Err Refusal.Planet)

abbrev pub zero_stages : StageList
zero_stages = record { count = 0; stages = no_stages }

-- their count alone, and what is shown of them: zeros where they are refused
abbrev pub count_of : Result StageList Refusal → Result ℕ Refusal
count_of (Ok s) = Ok s.count
count_of (Err e) = Err e

abbrev pub shown_stages : ℕ → StageList
shown_stages p = result_unwrap_or (stages_at p) zero_stages
