-- The five planets: what the law asks of a number holds of each, so the law does, and the answers show it in their own figures.
-- Assumes nothing.
use Rattle.std.specs.Prelude.{Ok}
use Rattle.refusal.specs.Numbers.{answer_number}
use Rattle.std.specs.Result.{result_unwrap_or}
use mathlib.Core.Path.{◌≡◌, ◌∙◌, refl, ap}
use mathlib.Core.Bool.{true, false}
use Prim.Native.Nat.{ℕ, suc, ◌+◌, ◌-◌, ◌*◌, ◌%◌, ◌<◌}
use native.Mathlib.Omega.{arith}
use lib.Dec.{T, lit<}
use Rattle.reckoning.proofs.Searches.{T_true}
use Rattle.units.specs.Xinghe.{P, D, is_year}
use Rattle.units.proofs.Years.{of_year}
use Rattle.sun.specs.Solstices.{solstice_of}
use Rattle.planets.specs.declared.Apparition.{Apparition}
use Rattle.planets.specs.declared.synodic.Planet.{Planet}
use Rattle.planets.specs.declared.synodic.ConjunctionParts.{ConjunctionParts}
use Rattle.planets.specs.Conjunctions.{rest, remaining, takes_half, less_half, kind_from, time, kind, conjunction_of, turned, interval, following}
use Rattle.planets.specs.Law.{kind_at, ordinal, OfYear}
use Rattle.planets.specs.Planets.{SoundPlanet, mercury, is_planet, planet_of}
use Rattle.planets.specs.Answers.{in_days, shown, conjunctions_of, zero_conjunctions}
use Rattle.planets.specs.Jobs.{conjunctions_in, conjunctions_for, conjunctions_at}
use Rattle.planets.specs.Shown.{parts_of, Shows, ShowsYear}
use Rattle.planets.proofs.Cases.{each_planet}
use Rattle.planets.proofs.EveryYear.{turns, each_year}

whole : {K : ℕ} → 0 < K → K < 16777216 → SoundPlanet (record { period = K; halved = false })
whole h r = record { number = record { positive = h; even = λ n. absurd n }; room = r }

halved : {K : ℕ} → 0 < K → K < 16777216 → K % 2 ≡ 0 → SoundPlanet (record { period = K; halved = true })
halved h r e = record { number = record { positive = h; even = λ _. e }; room = r }

pub planet_sound : (p : ℕ) → T (is_planet p) → SoundPlanet (planet_of p)
planet_sound =
    each_planet (λ p. SoundPlanet (planet_of p))
    (whole (lit< tt) (lit< tt))
    (whole (lit< tt) (lit< tt))
    (whole (lit< tt) (lit< tt))
    (halved (lit< tt) (lit< tt) refl)
    (halved (lit< tt) (lit< tt) refl)

-- THE LAW OF A PLANET, in every year: one statement for all five
pub law : (k : Planet) → SoundPlanet k → (y : ℕ) → OfYear P k.period k.halved y
law k s y = each_year P k.period k.halved s.number y

-- the days and remainder of a time are the time, nothing lost
in_days_lem : (n : ℕ) → (parts_of (in_days n) ≡ n) × ((in_days n).remainder.parts < D)
in_days_lem n = omega arith

shows : (k : Planet) (y s : ℕ) (c : ConjunctionParts) → c.instant ≡ s * interval k.period k.halved → c.kind ≡ kind_at k.halved s → y * P + c.time ≡ c.instant → Shows k y s (shown c)
unfolding shown solstice_of
shows k y s c i e t =
    record {
      since = (in_days_lem c.instant).0 ∙ i;
      kind = e;
      time = omega (arith, t, (in_days_lem c.time).0, (in_days_lem c.instant).0);
      below = ((in_days_lem c.time).1, (in_days_lem c.instant).1);
    }

-- THE ANSWER: conjunction ordinal(y) and the one after it, of the law's kinds, from the year's solstice
pub shows_year : (k : Planet) → SoundPlanet k → (y : ℕ) → ShowsYear k y (conjunctions_of k y)
unfolding conjunctions_of following conjunction_of
shows_year k s y =
    let l = law k s y in
    let o : ℕ = ordinal P k.period k.halved y in
    record {
      first = shows k y o (conjunction_of P k.period k.halved y) l.since l.kind refl;
      second =
          shows k y (suc o) (following k.period k.halved (conjunction_of P k.period k.halved y))
          (omega (arith, l.since))
          (ap (λ a. turned a) l.kind ∙ turns k.halved o)
          (omega arith);
    }

-- every year of the round and every planet is answered
answered : (n p : ℕ) → T (is_year n) → T (is_planet p) → conjunctions_at n p ≡ Ok (conjunctions_of (planet_of p) (n - 1))
unfolding conjunctions_for conjunctions_in
answered n p h k = of_year (λ a. conjunctions_for a p) n ∙ rw (T_true (is_year n) h, T_true (is_planet p) k)

-- THE JOB, in year n of the round and of planet p: answered, by the law, in its own figures
pub record Promise (n p : ℕ) : Type 0 where
  pub number : answer_number (conjunctions_at n p) ≡ 0
  pub law : OfYear P (planet_of p).period (planet_of p).halved (n - 1)
  pub shows : ShowsYear (planet_of p) (n - 1) (result_unwrap_or (conjunctions_at n p) zero_conjunctions)

pub conjunctions_promise : (n p : ℕ) → T (is_year n) → T (is_planet p) → Promise n p
conjunctions_promise n p h k =
    let e = answered n p h k in
    record {
      number = rw e;
      law = law (planet_of p) (planet_sound p k) (n - 1);
      shows = rw e (shows_year (planet_of p) (planet_sound p k) (n - 1));
    }

-- the one year of the round in which a time of exactly half decides: Mercury, year 976,859, morning at the solstice itself
pub at_half : conjunction_of P mercury.period mercury.halved 976858 ≡ record { instant = 976858 * P; time = 0; kind = Apparition.Morning }
unfolding conjunction_of time kind less_half kind_from takes_half remaining rest
at_half = refl
