-- The values of each answer as the list of numbers that is written to the lent array, in the order of include/xinghe.h. A row's are its fields
-- (calendar, `row_fields`).
-- Assumes nothing.
use Rattle.names.specs.declared.NameLocation.{NameLocation}
use Rattle.std.specs.Prelude.{Result, Ok, Err, List, [], ◌∷◌, map, ℕ}
use Rattle.refusal.specs.declared.Refusal.{Refusal}
use Rattle.names.specs.Names.{whose_number}
use Rattle.walking.specs.Fields.{bit_of}
use Rattle.calendar.specs.declared.YearHead.{YearHead}
use Rattle.lunisolar.specs.declared.dates.Day.{Day}
use Rattle.lunisolar.specs.declared.dates.Date.{Date}
use Rattle.moon.specs.declared.phases.Phases.{Phases}
use Rattle.node.specs.Sides.{side_number}
use Rattle.node.specs.declared.Nodes.{Nodes}
use Rattle.anomaly.specs.Amounts.{sized_of}
use Rattle.anomaly.specs.declared.Corrections.{Corrections}
use Rattle.sun.specs.declared.Point.{Point}
use Rattle.planets.specs.Answers.{apparition_number, stage_fields}
use Rattle.planets.specs.declared.TwoConjunctions.{TwoConjunctions}
use Rattle.planets.specs.declared.Stage.{Stage}

-- a year's head: months before, leap remainder, month count, leap place, solstice day and remainder
abbrev pub head_fields : YearHead → List ℕ
head_fields h = h.before ∷ h.remainder ∷ h.months ∷ h.leap ∷ h.solstice.day ∷ h.solstice.remainder.parts ∷ []

-- a day: its number and its day of the sixty
abbrev pub day_fields : Day → List ℕ
day_fields d = d.number ∷ d.sexagenary ∷ []

-- a date: year, place, day of the month
abbrev pub date_fields : Date → List ℕ
date_fields d = d.year ∷ d.place ∷ d.day ∷ []

-- the four phases: day, remainder and quarters of each
abbrev pub phases_fields : Phases → List ℕ
phases_fields p =
    p.new.day ∷ p.new.remainder.parts ∷ p.new.quarters
    ∷ p.first.day ∷ p.first.remainder.parts ∷ p.first.quarters
    ∷ p.full.day ∷ p.full.remainder.parts ∷ p.full.quarters
    ∷ p.last.day ∷ p.last.remainder.parts ∷ p.last.quarters ∷ []

-- a new moon's distance, side and eclipse, which have no halves, and a full moon's distance and eclipse with their halves
abbrev pub nodes_fields : Nodes → List ℕ
nodes_fields n =
    n.new.distance.degrees ∷ n.new.distance.remainder.parts ∷ side_number n.side
    ∷ bit_of n.new.eclipse.marked ∷ n.new.eclipse.distance.degrees ∷ n.new.eclipse.distance.remainder.parts ∷ n.new.eclipse.size
    ∷ n.full.distance.degrees ∷ n.full.distance.remainder.parts ∷ n.full.distance.half
    ∷ bit_of n.full.eclipse.marked ∷ n.full.eclipse.distance.degrees ∷ n.full.eclipse.distance.remainder.parts
    ∷ n.full.eclipse.distance.half ∷ n.full.eclipse.size ∷ []

-- a new moon's anomaly, correction by its sign and size, day and remainder, which have no halves, and a full moon's with their halves
abbrev pub corrections_fields : Corrections → List ℕ
corrections_fields x =
    x.new.anomaly.day ∷ x.new.anomaly.rest.parts
    ∷ bit_of (sized_of x.new.correction).minus ∷ (sized_of x.new.correction).size ∷ x.new.day ∷ x.new.remainder.parts
    ∷ x.full.anomaly.day ∷ x.full.anomaly.rest.parts ∷ x.full.anomaly.half
    ∷ bit_of (sized_of x.full.correction).minus ∷ (sized_of x.full.correction).size ∷ x.full.day ∷ x.full.remainder.parts
    ∷ x.full.half ∷ []

-- a point of a cut: day, remainder, rest over the cut
abbrev pub point_fields : Point → List ℕ
point_fields p = p.day ∷ p.remainder.parts ∷ p.rest ∷ []

-- two conjunctions: of each the time from the solstice, the time since the origin, and the kind
abbrev pub conjunctions_fields : TwoConjunctions → List ℕ
conjunctions_fields c =
    c.first.time.whole ∷ c.first.time.remainder.parts ∷ c.first.since.whole ∷ c.first.since.remainder.parts
    ∷ apparition_number c.first.kind
    ∷ c.second.time.whole ∷ c.second.time.remainder.parts ∷ c.second.since.whole ∷ c.second.since.remainder.parts
    ∷ apparition_number c.second.kind ∷ []

-- the stages, one after the other
abbrev pub stages_fields : List Stage → List (List ℕ)
stages_fields stages = map stage_fields stages

-- where a name is found: the number of the list, and the byte of it, from 0, at which the name begins; both 0 where it is refused
abbrev pub location_fields : Result NameLocation Refusal → List ℕ
location_fields (Ok location) = whose_number location.whose ∷ location.from ∷ []
location_fields (Err e) = 0 ∷ 0 ∷ []
