-- A day and remainder moved by less than a day, as the remainder's own carry gives it.
-- Assumes nothing.
use mathlib.Core.Path.{◌≡◌}
use mathlib.Core.Logic.{⊎_elim}
use Prim.Native.Nat.{ℕ, ◌+◌, ◌-◌, ◌*◌, ◌/◌, ◌%◌, ◌≤◌, ◌<◌}
use native.Mathlib.Omega.{arith}
use borrow.Author.Tests.{le-leb, lt-leb, lt-ltb, le-ltb}
use Rattle.reckoning.proofs.Searches.{le_or_lt}
use Rattle.units.specs.Xinghe.{N}
use Rattle.anomaly.specs.Corrections.{later, earlier}

module _ (d r c : ℕ) (in_range : r < N) (less : c ≤ N) where
  pub later_is : later d r c ≡ record { whole = d + (r + c) / N; remainder = record { parts = (r + c) % N } }
  later_is =
      ⊎_elim
      (λ (h : N ≤ r + c).
      let e : d + (r + c) / N ≡ d + 1 = omega arith in
      let f : (r + c) % N ≡ r + c - N = omega arith in
      rw (le-ltb (r + c) N h, e, f))
      (λ (h : r + c < N).
      let e : d + (r + c) / N ≡ d = omega arith in
      let f : (r + c) % N ≡ r + c = omega arith in
      rw (lt-ltb (r + c) N h, e, f))
      (le_or_lt N (r + c))

  pub earlier_is : earlier d r c ≡ record { whole = d + (r + (N - c)) / N - 1; remainder = record { parts = (r + (N - c)) % N } }
  earlier_is =
      ⊎_elim
      (λ (h : c ≤ r).
      let e : d + (r + (N - c)) / N - 1 ≡ d = omega arith in
      let f : (r + (N - c)) % N ≡ r - c = omega arith in
      rw (le-leb c r h, e, f))
      (λ (h : r < c).
      let e : d + (r + (N - c)) / N - 1 ≡ d - 1 = omega arith in
      let f : (r + (N - c)) % N ≡ r + N - c = omega arith in
      rw (lt-leb c r h, e, f))
      (le_or_lt c r)

  -- a day back leads nowhere before the origin
  pub day_before : c ≤ d * N + r → 1 ≤ d + (r + (N - c)) / N
  day_before h = omega arith
