-- The definitions by what the code has found.
-- Assumes nothing.
use mathlib.Core.Path.{◌≡◌, refl, sym, subst}
use mathlib.Core.Logic.{⊎_elim}
use mathlib.Core.Bool.{Bool, true, false, ◌&&◌}
use Prim.Native.Nat.{ℕ, zero, suc, ◌-◌, ◌/◌, ◌≤◌, ◌<◌}
use native.Mathlib.Omega.{arith}
use lib.Dec.{T, leb, ltb, eqb}
use borrow.Author.Tests.{leb-true}
use Rattle.reckoning.specs.Search.{pick}
use Rattle.reckoning.proofs.Searches.{between_low, between_high, below, beyond, le_or_lt}
use Rattle.planets.specs.declared.Apparition.{Apparition}
use Rattle.planets.specs.Planets.{jupiter, mars, saturn, venus, mercury, is_planet, planet_of}
use Rattle.planets.specs.Conjunctions.{takes_half, less_half, kind_from, interval}

module _ (K : ℕ) (halved : Bool) where
  pub interval_half : halved ≡ true → K / 2 ≡ interval K halved
  interval_half e = rw e

  pub interval_whole : halved ≡ false → K ≡ interval K halved
  interval_whole e = rw e

  module _ (t : ℕ) where
    pub time_less : takes_half K halved t ≡ true → t - K / 2 ≡ less_half K halved t
    unfolding less_half
    time_less e = rw e

    pub time_whole : takes_half K halved t ≡ false → t ≡ less_half K halved t
    unfolding less_half
    time_whole e = rw e

    pub is_morning : takes_half K halved t ≡ true → (K / 2 ≤ t) × (Apparition.Morning ≡ kind_from K halved t)
    unfolding takes_half kind_from
    is_morning = go halved
      where
        go : (b : Bool) → (b && leb (K / 2) t) ≡ true → (K / 2 ≤ t) × (Apparition.Morning ≡ pick b (pick (b && leb (K / 2) t) Apparition.Morning Apparition.Evening) Apparition.Neither)
        go true e = (leb-true (K / 2) t e, rw e)
        go false e = absurd (subst T (sym e) tt)

    pub is_evening : takes_half K halved t ≡ false → halved ≡ true → Apparition.Evening ≡ kind_from K halved t
    unfolding kind_from
    is_evening e h = rw (e, h)

    pub is_neither : halved ≡ false → Apparition.Neither ≡ kind_from K halved t
    unfolding kind_from
    is_neither h = rw h

-- what holds of planets 1 to 5 holds of every planet
pub each_planet : (A : ℕ → Type 0) → A 1 → A 2 → A 3 → A 4 → A 5 → (p : ℕ) → T (is_planet p) → A p
each_planet A a b c d e zero h = absurd (omega (arith, between_low 1 0 6 h))
each_planet A a b c d e (suc zero) h = a
each_planet A a b c d e (suc (suc zero)) h = b
each_planet A a b c d e (suc (suc (suc zero))) h = c
each_planet A a b c d e (suc (suc (suc (suc zero)))) h = d
each_planet A a b c d e (suc (suc (suc (suc (suc zero))))) h = e
each_planet A a b c d e (suc (suc (suc (suc (suc (suc p)))))) h =
    absurd (omega (arith, between_high 1 (suc (suc (suc (suc (suc (suc p)))))) 6 h))

-- the planets' numbers by choices
abbrev chosen : ℕ → ℕ
chosen p = pick (ltb p 4) (pick (eqb p 1) jupiter.period (pick (eqb p 2) mars.period saturn.period)) (pick (eqb p 4) venus.period mercury.period)

pub period_chosen : (p : ℕ) → T (is_planet p) → chosen p ≡ (planet_of p).period
period_chosen = each_planet (λ p. chosen p ≡ (planet_of p).period) refl refl refl refl refl

-- the halved planets are those from 4 on
pub halved_from : (p : ℕ) → T (is_planet p) → leb 4 p ≡ (planet_of p).halved
halved_from = each_planet (λ p. leb 4 p ≡ (planet_of p).halved) refl refl refl refl refl

-- a planet that is none of the five
pub outside : (p : ℕ) → (p ≡ 1 → ⊥) → (p ≡ 2 → ⊥) → (p ≡ 3 → ⊥) → (p ≡ 4 → ⊥) → (p ≡ 5 → ⊥) → is_planet p ≡ false
outside p a b c d e =
    ⊎_elim (λ (h : 6 ≤ p). beyond 1 p 6 h) (λ (h : p < 6). below 1 p 6 (omega arith)) (le_or_lt 6 p)
