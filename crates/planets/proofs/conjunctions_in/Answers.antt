use native.Mathlib.Omega.{arith}
use lib.Dec.{T}
use Rattle.reckoning.proofs.Searches.{T_true, between_T, below, beyond}
use Rattle.planets.specs.Planets.{is_planet}
use Rattle.planets.specs.Jobs.{conjunctions_in}
use Rattle.planets.proofs.conjunctions_in.Goals as goal

-- the planet is one of the five
is_planet_lem : (c : goal.Else-planet-gt-PLANETS) → T (is_planet c.args.planet)
is_planet_lem c = between_T 1 c.args.planet 6 (omega (arith, c.if-planet-lt1.false)) (omega (arith, c.if-planet-gt-PLANETS.false))

pub returns-then-planet-lt1 : goal.returns-then-planet-lt1
unfolding conjunctions_in
returns-then-planet-lt1 c = let p = c.args.planet in rw (below 1 p 6 (omega (arith, c.if-planet-lt1.true)))

pub returns-then-planet-gt-PLANETS : goal.returns-then-planet-gt-PLANETS
unfolding conjunctions_in
returns-then-planet-gt-PLANETS c = let p = c.args.planet in rw (beyond 1 p 6 (omega (arith, c.if-planet-gt-PLANETS.true)))

pub planet_of-requires : goal.planet_of-requires
planet_of-requires c = is_planet_lem c

pub returns : goal.returns
unfolding conjunctions_in
returns c =
    rw (T_true (is_planet c.args.planet) (is_planet_lem c.before.before), c.conjunctions_of.ensures, c.planet_of.ensures)
