-- The treatise's monthly addition gives the next new moon, at every month.
-- Assumes nothing.
use mathlib.Core.Path.{◌≡◌, refl}
use mathlib.Core.Logic.{⊎_elim}
use Prim.Native.Nat.{ℕ, suc, ◌+◌, ◌-◌, ◌*◌, ◌/◌, ◌%◌, ◌≤◌, ◌<◌}
use native.Mathlib.Omega.{arith}
use borrow.Author.Tests.{le-leb, lt-leb}
use Rattle.reckoning.specs.Means.{new_moon, new_moon_rest}
use Rattle.reckoning.proofs.Searches.{le_or_lt}
use Rattle.units.specs.Xinghe.{N, P, long_from, monthly_parts}
use Rattle.units.specs.Units.{DayRemainder}
use Rattle.moon.specs.NewMoons.{new_moon_of, length_of, monthly_addition}
use Rattle.moon.specs.declared.NewMoon.{NewMoon}

pub next_new_moon : (m : ℕ) → new_moon_of (suc m) ≡ monthly_addition (new_moon_of m)
unfolding new_moon_of new_moon new_moon_rest monthly_addition
next_new_moon m =
    let r : ℕ = m * P % N in
    ⊎_elim
    (λ (h : N ≤ r + monthly_parts).
    let d : suc m * P / N ≡ m * P / N + 29 + 1 = omega arith in
    let e : suc m * P % N ≡ r + monthly_parts - N = omega arith in
    rw (le-leb N (r + monthly_parts) h, d, e))
    (λ (h : r + monthly_parts < N).
    let d : suc m * P / N ≡ m * P / N + 29 = omega arith in
    let e : suc m * P % N ≡ r + monthly_parts = omega arith in
    rw (lt-leb N (r + monthly_parts) h, d, e))
    (le_or_lt N (r + monthly_parts))

-- a month has 29 or 30 days, and so many N are at most P and the small remainder
pub length_fits : (r : DayRemainder) → (29 ≤ length_of r) × (length_of r ≤ 30) × (length_of r * N ≤ r.parts + P)
unfolding length_of
length_fits r =
    ⊎_elim
    (λ (h : long_from ≤ r.parts). rw (le-leb long_from r.parts h) (omega (arith, h)))
    (λ (h : r.parts < long_from). rw (lt-leb long_from r.parts h) (omega (arith, h)))
    (le_or_lt long_from r.parts)

-- THE ADDITION BY THE MONTH'S LENGTH: so many days later, P more and so many N less
pub by_length : (x : NewMoon) → x.remainder.parts < N →
    monthly_addition x ≡ record { day = x.day + length_of x.remainder; remainder = record { parts = x.remainder.parts + P - length_of x.remainder * N } }
unfolding monthly_addition length_of
by_length x b =
    let r : ℕ = x.remainder.parts in
    ⊎_elim
    (λ (h : long_from ≤ r).
    let long : N ≤ r + monthly_parts = omega (arith, h) in
    let e : r + monthly_parts - N ≡ r + P - 30 * N = omega (arith, h) in
    let d : x.day + 29 + 1 ≡ x.day + 30 = omega arith in
    rw (le-leb long_from r h, le-leb N (r + monthly_parts) long, d, e) refl)
    (λ (h : r < long_from).
    let short : r + monthly_parts < N = omega (arith, h) in
    let e : r + monthly_parts ≡ r + P - 29 * N = omega (arith, h) in
    rw (lt-leb long_from r h, lt-leb N (r + monthly_parts) short, e) refl)
    (le_or_lt long_from r)
