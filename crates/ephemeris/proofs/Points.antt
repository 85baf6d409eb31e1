-- The tests of a cut and a point, by what the code has found.
-- Assumes nothing.
use Rattle.std.specs.Prelude.{Ok, Err}
use mathlib.Core.Path.{◌≡◌}
use mathlib.Core.Bool.{true, and-false}
use Prim.Native.Nat.{ℕ, ◌≤◌, ◌<◌}
use borrow.Author.Tests.{lt-ltb, le-ltb, ne_eqb}
use Rattle.refusal.specs.declared.Refusal.{Refusal}
use Rattle.sun.specs.Points.{is_cut, point_of}
use Rattle.ephemeris.specs.Jobs.{point_in}

module _ (y c i : ℕ) where
  pub past : c ≤ i → point_in y c i ≡ Err Refusal.Cut
  unfolding point_in
  past h = rw (le-ltb i c h, and-false (is_cut c))

  pub on_cut : is_cut c ≡ true → i < c → point_in y c i ≡ Ok (point_of y c i)
  unfolding point_in
  on_cut e h = rw (e, lt-ltb i c h)

  pub no_cut : (c ≡ 24 → ⊥) → (c ≡ 60 → ⊥) → (c ≡ 72 → ⊥) → point_in y c i ≡ Err Refusal.Cut
  unfolding point_in
  no_cut a b d = rw (ne_eqb c 24 a, ne_eqb c 60 b, ne_eqb c 72 d)
