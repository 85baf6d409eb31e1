-- What the printed stages add up to (02 §1), that each does what it is said to do, and how they lie to one another: computed once over
-- each list.
-- Assumes nothing.
use Rattle.std.specs.Prelude.{◌≡◌, Bool, true, false, cond, not, ◌&&◌, List, [], ◌∷◌, ◌++◌, map, reverse, ℕ, ◌+◌, ◌-◌, ◌*◌, ◌/◌, T, eqb, ltb, ℤ, pos, neg_ℤ, ◌+ℤ◌, nat_abs, length, take, replicate}
use Rattle.reckoning.specs.Search.{pick}
use Rattle.units.specs.Xinghe.{P, D}
use Rattle.planets.specs.declared.Apparition.{Apparition}
use Rattle.planets.specs.declared.Stage.{Stage}
use Rattle.planets.specs.declared.StageKind.{StageKind}
use Rattle.planets.specs.declared.StageKind.TheVariants.{Unused, Hidden, Direct, Station, Retrograde}
use Rattle.planets.specs.Planets.{planet_of}
use Rattle.planets.specs.Conjunctions.{interval}
use Rattle.planets.specs.Answers.{stage_kind_number, is_back}
use Rattle.planets.specs.Stages.{stages_of}

-- the days of all stages, in parts over D
abbrev pub days_of : List Stage → ℕ
days_of [] = 0
days_of (s ∷ l) = s.days * D + s.remainder.parts + days_of l

-- the size of a stage's degrees, in parts over D
abbrev arc_of : Stage → ℕ
arc_of s = nat_abs s.degrees * D + s.excess.parts

-- the degrees of all stages, in parts over D: those gone back are taken off
abbrev pub degrees_of : List Stage → ℤ
degrees_of [] = pos 0
degrees_of (s ∷ l) = pick (is_back s.degrees) (neg_ℤ (pos (arc_of s))) (pos (arc_of s)) +ℤ degrees_of l

-- the daily motion has a proper fraction, and the days times it are the degrees
abbrev moves : Stage → Bool
moves s =
    ltb s.numerator s.denominator
    && eqb ((s.days * D + s.remainder.parts) * (s.whole * s.denominator + s.numerator)) (arc_of s * s.denominator)

-- no daily motion is printed
abbrev unmoved : Stage → Bool
unmoved s = eqb (s.whole + s.numerator + s.denominator) 0

-- a direct stage goes on by its motion and a retrograde one back, a station stays, a hidden one has no motion, and none is unused
abbrev fits : StageKind → Stage → Bool
fits Unused s = false
fits Hidden s = unmoved s
fits Direct s = moves s && not (is_back s.degrees) && not (eqb (arc_of s) 0)
fits Station s = unmoved s && eqb (arc_of s) 0
fits Retrograde s = moves s && is_back s.degrees

abbrev pub all_fit : List Stage → Bool
all_fit [] = true
all_fit (s ∷ l) = fits s.kind s && all_fit l

-- a stage but for its remainders and for morning and evening
abbrev outline : Stage → List ℕ
outline s =
    s.days ∷ cond (is_back s.degrees) 1 0 ∷ nat_abs s.degrees ∷ s.whole ∷ s.numerator ∷ s.denominator
    ∷ stage_kind_number s.kind ∷ []

-- n stages from one conjunction to the next, of which the first two and the last say morning or evening
abbrev spoken : Apparition → Apparition → ℕ → List Apparition
spoken rising setting n = rising ∷ rising ∷ replicate (n - 3) Apparition.Neither ++ (setting ∷ [])

-- how many stages lead to the next conjunction, and what they say: of a halved planet half of them, first the evening's, then the morning's
abbrev half_count : ℕ → ℕ
half_count p = length (stages_of p) / 2

abbrev to_next : ℕ → ℕ
to_next p = pick (planet_of p).halved (half_count p) (length (stages_of p))

abbrev said_of : ℕ → List Apparition
said_of p =
    pick (planet_of p).halved
    (spoken Apparition.Evening Apparition.Evening (half_count p) ++ spoken Apparition.Morning Apparition.Morning (half_count p))
    (spoken Apparition.Morning Apparition.Evening (to_next p))

-- THE STAGES OF PLANET p HANG TOGETHER
pub record AddsUp (p : ℕ) : Type 0 where
  -- the days are the planet's number, and those to the next conjunction its interval
  pub days : days_of (stages_of p) ≡ (planet_of p).period
  pub next : days_of (take (to_next p) (stages_of p)) ≡ interval (planet_of p).period (planet_of p).halved
  -- the degrees are its number too where it is halved, else its number less the P of the sun's own circuit (周天)
  pub degrees : degrees_of (stages_of p) ≡ pos (pick (planet_of p).halved (planet_of p).period ((planet_of p).period - P))
  -- each fits its kind
  pub fit : T (all_fit (stages_of p))
  -- they are the same from the end as from the beginning (互為對稱), but for the remainders
  pub mirror : map outline (stages_of p) ≡ reverse (map outline (stages_of p))
  -- and say morning and evening as they lie to the conjunctions
  pub said : map (λ (s : Stage). s.apparition) (stages_of p) ≡ said_of p
