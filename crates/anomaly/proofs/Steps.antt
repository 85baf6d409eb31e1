-- How far a new moon is in the round of the anomaly, and the next.
-- Assumes nothing.
use mathlib.Core.Path.{◌≡◌, refl, ◌∙◌}
use mathlib.Core.Logic.{⊎_elim}
use Prim.Native.Nat.{ℕ, suc, ◌+◌, ◌-◌, ◌*◌, ◌%◌, ◌≤◌, ◌<◌}
use native.Mathlib.Nat.{mod-add-mod}
use native.Mathlib.Omega.{arith}
use borrow.Author.Tests.{le-leb, lt-leb}
use Rattle.reckoning.proofs.Searches.{le_or_lt}
use Rattle.units.specs.Xinghe.{P, T}
use Rattle.anomaly.specs.Corrections.{new_moon_at, anomaly_at}
use Rattle.anomaly.specs.Steps.{into_anomaly, next_into}

within : (a : ℕ) → a < T → next_into a ≡ (a + P) % T
unfolding next_into
within a b =
    ⊎_elim
    (λ (h : T ≤ a + P - T). rw (le-leb T (a + P - T) h) (omega (arith, b, h)))
    (λ (h : a + P - T < T). rw (lt-leb T (a + P - T) h) (omega (arith, b, h)))
    (le_or_lt T (a + P - T))

pub next_into_anomaly : (m : ℕ) → next_into (into_anomaly m) ≡ into_anomaly (suc m)
next_into_anomaly m = let e : m * P + P ≡ suc m * P = omega arith in within (into_anomaly m) (omega arith) ∙ rw (mod-add-mod, e) refl

-- the anomaly by this count is that of the new moon
pub into_is_anomaly : (m : ℕ) → anomaly_at (2 * into_anomaly m) ≡ anomaly_at (new_moon_at m)
unfolding anomaly_at
into_is_anomaly m =
    let e : 2 * m * P % (2 * T) ≡ 2 * (m * P % T) = omega arith in
    let f : 2 * (m * P % T) % (2 * T) ≡ 2 * (m * P % T) = omega arith in
    rw (e, f) refl
