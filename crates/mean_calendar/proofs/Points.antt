-- The tests of a cut and a point, by what the code has found; and the instant of a point.
-- Assumes nothing.
use Rattle.std.specs.Prelude.{Ok, Err}
use mathlib.Core.Path.{◌≡◌, ◌∙◌, ap}
use mathlib.Core.Bool.{true, and-false}
use Prim.Native.Nat.{ℕ, ◌+◌, ◌*◌, ◌/◌, ◌%◌, ◌≤◌, ◌<◌}
use native.Mathlib.Omega.{arith}
use native.Mathlib.Nat.{div-add-mod', mod-lt}
use borrow.Author.Tests.{lt-ltb, le-ltb, ne_eqb}
use Rattle.refusal.specs.declared.Refusal.{Refusal}
use Rattle.lunisolar.specs.Calendars.{Sound}
use Rattle.lunisolar.specs.declared.Constants.{Constants}
use Rattle.mean_calendar.specs.Points.{is_cut, point_of, point_in}
use Rattle.mean_calendar.specs.declared.MeanPoint.{MeanPoint}

module _ (k : Constants) (y c i : ℕ) where
  pub past : c ≤ i → point_in k y c i ≡ Err Refusal.Cut
  unfolding point_in
  past h = rw (le-ltb i c h, and-false (is_cut c))

  pub on_cut : is_cut c ≡ true → i < c → point_in k y c i ≡ Ok (point_of k y c i)
  unfolding point_in
  on_cut e h = rw (e, lt-ltb i c h)

  pub no_cut : (c ≡ 24 → ⊥) → (c ≡ 60 → ⊥) → (c ≡ 72 → ⊥) → point_in k y c i ≡ Err Refusal.Cut
  unfolding point_in
  no_cut a b d = rw (ne_eqb c 24 a, ne_eqb c 60 b, ne_eqb c 72 d)

-- the instant of a point, in parts of 1/c over the degree divisor since the origin
abbrev pub instant : Constants → ℕ → MeanPoint → ℕ
instant k c x = (x.day * k.degree + x.remainder.parts) * c + x.rest

-- THE REST IS KEPT EXACTLY: the instant is the solstice's, times c, and i years' parts more
pub point_instant : (k : Constants) → Sound k → (y c i : ℕ) → 0 < c →
    (instant k c (point_of k y c i) ≡ y * k.year * c + i * k.year) × ((point_of k y c i).rest < c) × ((point_of k y c i).remainder.parts < k.degree)
unfolding point_of
point_instant k s y c i h =
    let t : ℕ = (y * c + i) * k.year in
    let q : t / c / k.degree * k.degree + t / c % k.degree ≡ t / c = div-add-mod' (t / c) k.degree in
    (ap (λ (x : ℕ). x * c + t % c) q ∙ omega (arith, div-add-mod' t c), mod-lt t h, mod-lt (t / c) s.sun.den)
