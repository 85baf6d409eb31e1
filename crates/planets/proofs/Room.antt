-- How far a planet's times and instants go: none is more than its number past the solstice.
-- Assumes nothing.
use mathlib.Core.Bool.{Bool, true, false}
use Prim.Native.Nat.{ℕ, ◌+◌, ◌-◌, ◌*◌, ◌/◌, ◌≤◌}
use native.Mathlib.Omega.{arith}
use Rattle.reckoning.specs.Search.{pick}
use Rattle.planets.specs.Conjunctions.{rest, remaining, takes_half, less_half, time, conjunction_of, interval}

module _ (K : ℕ) (halved : Bool) where
  pub interval_most : interval K halved ≤ K
  interval_most = go halved
    where
      go : (b : Bool) → pick b (K / 2) K ≤ K
      go true = omega arith
      go false = omega arith

  -- the time is at most what remained
  pub less_most : (t : ℕ) → less_half K halved t ≤ t
  unfolding less_half
  less_most t = go (takes_half K halved t)
    where
      go : (b : Bool) → pick b (t - K / 2) t ≤ t
      go true = omega arith
      go false = omega arith

module _ (P K : ℕ) (halved : Bool) (y : ℕ) where
  -- so it is at most the number
  time_most : time P K halved y ≤ K
  unfolding time remaining
  time_most = omega (arith, less_most K halved (K - rest P K y))

  pub instant_most : (conjunction_of P K halved y).instant ≤ y * P + K
  unfolding conjunction_of
  instant_most = omega (arith, time_most)

  pub kept_time : (conjunction_of P K halved y).time ≤ K
  unfolding conjunction_of
  kept_time = time_most
