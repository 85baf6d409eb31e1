-- What is claimed of an answer in its own figures, days and remainders over D (02 §1). The proofs are in proofs/Five.
-- Assumes nothing.
use Rattle.std.specs.Prelude.{◌≡◌, ℕ, suc, ◌+◌, ◌*◌, ◌<◌}
use Rattle.units.specs.Xinghe.{P, D}
use Rattle.units.specs.Units.{DegreeCarry}
use Rattle.sun.specs.Solstices.{solstice_of}
use Rattle.planets.specs.declared.Conjunction.{Conjunction}
use Rattle.planets.specs.declared.TwoConjunctions.{TwoConjunctions}
use Rattle.planets.specs.declared.synodic.Planet.{Planet}
use Rattle.planets.specs.Conjunctions.{interval}
use Rattle.planets.specs.Law.{kind_at, ordinal}

-- days and remainder as parts over D
abbrev pub parts_of : DegreeCarry → ℕ
parts_of t = t.whole * D + t.remainder.parts

-- c is conjunction s of the planet, shown for the year with y years past
pub record Shows (k : Planet) (y s : ℕ) (c : Conjunction) : Type 0 where
  -- it stands s intervals after the origin, and its kind is that of s
  pub since : parts_of c.since ≡ s * interval k.period k.halved
  pub kind : c.kind ≡ kind_at k.halved s
  -- the time that is shown leads to it from the year's solstice
  pub time : (solstice_of y).day * D + (solstice_of y).remainder.parts + parts_of c.time ≡ parts_of c.since
  -- and no remainder reaches a day
  pub below : (c.time.remainder.parts < D) × (c.since.remainder.parts < D)

-- the first is year y's conjunction, the second the one after it
pub record ShowsYear (k : Planet) (y : ℕ) (two : TwoConjunctions) : Type 0 where
  pub first : Shows k y (ordinal P k.period k.halved y) two.first
  pub second : Shows k y (suc (ordinal P k.period k.halved y)) two.second
