-- The answers of the planets' jobs (02 §1): conjunctions in days and remainders over D, and the values where they are refused, all
-- zero. The zero of a kind is "neither", of a stage's kind "unused".
-- Assumes nothing.
use Rattle.std.specs.Prelude.{Bool, true, false, cond, List, [], ◌∷◌, ℕ, ℤ, pos, negsuc, nat_abs}
use Rattle.units.specs.Xinghe.{P}
use Rattle.units.specs.Units.{degree_carry, DegreeCarry}
use Rattle.planets.specs.declared.Apparition.{Apparition}
use Rattle.planets.specs.declared.Conjunction.{Conjunction}
use Rattle.planets.specs.declared.TwoConjunctions.{TwoConjunctions}
use Rattle.planets.specs.declared.Stage.{Stage}
use Rattle.planets.specs.declared.StageKind.{StageKind}
use Rattle.planets.specs.declared.synodic.Planet.{Planet}
use Rattle.planets.specs.declared.synodic.ConjunctionParts.{ConjunctionParts}
use Rattle.planets.specs.Conjunctions.{conjunction_of, following}

-- whole days, and the remainder over D
abbrev pub in_days : ℕ → DegreeCarry
in_days parts = degree_carry (record { parts = 0 }) parts

-- a conjunction's time and instant in days
unfoldable pub shown : ConjunctionParts → Conjunction
shown c = record { time = in_days c.time; since = in_days c.instant; kind = c.kind }

-- the conjunction of the year with y years past, and the one after it
unfoldable pub conjunctions_of : Planet → ℕ → TwoConjunctions
conjunctions_of k y =
    record {
      first = shown (conjunction_of P k.period k.halved y);
      second = shown (following k.period k.halved (conjunction_of P k.period k.halved y));
    }

abbrev zero_conjunction : Conjunction
zero_conjunction = record { time = in_days 0; since = in_days 0; kind = Apparition.Neither }

abbrev pub zero_conjunctions : TwoConjunctions
zero_conjunctions = record { first = zero_conjunction; second = zero_conjunction }

-- morning and evening, and what a planet does, as numbers: so lists and lines have them
abbrev pub apparition_number : Apparition → ℕ
apparition_number Apparition.Neither = 0
apparition_number Apparition.Morning = 1
apparition_number Apparition.Evening = 2

abbrev pub stage_kind_number : StageKind → ℕ
stage_kind_number StageKind.Unused = 0
stage_kind_number StageKind.Hidden = 1
stage_kind_number StageKind.Direct = 2
stage_kind_number StageKind.Station = 3
stage_kind_number StageKind.Retrograde = 4

-- degrees that are gone back
abbrev pub is_back : ℤ → Bool
is_back (pos n) = false
is_back (negsuc n) = true

-- a stage's ten numbers: days and remainder, degrees by whether they are gone back and by their size, their remainder, daily motion, the
-- number of its kind, that of morning or evening
abbrev pub stage_fields : Stage → List ℕ
stage_fields s =
    s.days ∷ s.remainder.parts ∷ cond (is_back s.degrees) 1 0 ∷ nat_abs s.degrees ∷ s.excess.parts
    ∷ s.whole ∷ s.numerator ∷ s.denominator ∷ stage_kind_number s.kind ∷ apparition_number s.apparition ∷ []
