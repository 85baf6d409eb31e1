-- The stages as they are printed: they hang together, and the answer shows all of them.
-- Assumes nothing.
use mathlib.Core.Path.{◌≡◌, refl}
use Prim.Native.Nat.{ℕ}
use lib.Dec.{T}
use lib.ListN.{take, drop}
use Rattle.reckoning.specs.Search.{between}
use Rattle.planets.specs.Planets.{is_planet}
use Rattle.planets.specs.Stages.{stages_of, no_stages}
use Rattle.planets.specs.Guards.{AddsUp}
use Rattle.planets.specs.Jobs.{stages_at, shown_stages}
use Rattle.planets.proofs.Cases.{each_planet}

-- the guards over the table
pub adds_up : (p : ℕ) → T (is_planet p) → AddsUp p
adds_up =
    each_planet AddsUp
    (record { days = refl; next = refl; degrees = refl; fit = tt; mirror = refl; said = refl })
    (record { days = refl; next = refl; degrees = refl; fit = tt; mirror = refl; said = refl })
    (record { days = refl; next = refl; degrees = refl; fit = tt; mirror = refl; said = refl })
    (record { days = refl; next = refl; degrees = refl; fit = tt; mirror = refl; said = refl })
    (record { days = refl; next = refl; degrees = refl; fit = tt; mirror = refl; said = refl })

-- THE ANSWER HAS THE PLANET'S STAGES, ALL OF THEM, up to its count, and zero from there on
pub record ShowsAll (p : ℕ) : Type 0 where
  pub stages : take (shown_stages p).count (shown_stages p).stages ≡ stages_of p
  pub unused : drop (shown_stages p).count (shown_stages p).stages ≡ drop (shown_stages p).count no_stages

pub shows_all : (p : ℕ) → T (is_planet p) → ShowsAll p
unfolding stages_at between
shows_all =
    each_planet ShowsAll
    (record { stages = refl; unused = refl })
    (record { stages = refl; unused = refl })
    (record { stages = refl; unused = refl })
    (record { stages = refl; unused = refl })
    (record { stages = refl; unused = refl })
