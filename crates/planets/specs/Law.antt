-- What is claimed of the conjunctions (02 §1), over any P, any number K and whether it is halved. The proofs are in proofs/EveryYear.
-- Assumes nothing.
use Rattle.std.specs.Prelude.{◌≡◌, Bool, ℕ, ◌+◌, ◌-◌, ◌*◌, ◌/◌, ◌%◌, ◌≤◌, ◌<◌, T, leb, eqb}
use Rattle.reckoning.specs.Search.{pick, times}
use Rattle.planets.specs.declared.Apparition.{Apparition}
use Rattle.planets.specs.declared.synodic.ConjunctionParts.{ConjunctionParts}
use Rattle.planets.specs.Conjunctions.{rest, conjunction_of, interval, following}

-- what the law asks of a planet's number: it isn't 0, and it is even where it is halved
pub record SoundPeriod (K : ℕ) (halved : Bool) : Type 0 where
  pub positive : 0 < K
  pub even : T halved → K % 2 ≡ 0

-- the kind of conjunction s, counted from 1: of a halved planet odd ones are morning, even ones evening
abbrev pub kind_at : Bool → ℕ → Apparition
kind_at halved s = pick halved (pick (eqb (s % 2) 1) Apparition.Morning Apparition.Evening) Apparition.Neither

-- b is at a or after it, for a morning conjunction; after it, for another
abbrev pub From : Apparition → ℕ → ℕ → Type 0
From Apparition.Morning a b = a ≤ b
From Apparition.Evening a b = a < b
From Apparition.Neither a b = a < b

-- one conjunction: one instant and one kind
pub record Same (a b : ConjunctionParts) : Type 0 where
  pub instant : a.instant ≡ b.instant
  pub kind : a.kind ≡ b.kind

module _ (P K : ℕ) (halved : Bool) where
  -- WHICH CONJUNCTION IS YEAR y's: with q whole numbers (積合) and the rest r in y·P it is q + 1; halved, 2·q + 1 where r is at most half the number, else 2·q + 2
  unfoldable pub ordinal : ℕ → ℕ
  ordinal y = pick halved (pick (leb (rest P K y) (K / 2)) (2 * (y * P / K) + 1) (2 * (y * P / K) + 2)) (y * P / K + 1)

  -- conjunction s, at s intervals, comes after the solstice of year y, or with it if it is a morning one
  abbrev pub Comes : ℕ → ℕ → Type 0
  Comes y s = From (kind_at halved s) (y * P) (s * interval K halved)

  -- YEAR y's CONJUNCTION
  pub record OfYear (y : ℕ) : Type 0 where
    -- solstice and time together are ordinal(y) intervals since the origin, and so is the instant
    pub stands : y * P + (conjunction_of P K halved y).time ≡ ordinal y * interval K halved
    pub since : (conjunction_of P K halved y).instant ≡ ordinal y * interval K halved
    -- its kind is that of its ordinal
    pub kind : (conjunction_of P K halved y).kind ≡ kind_at halved (ordinal y)
    -- it is counted from 1, it comes, and no earlier one does
    pub counted : 1 ≤ ordinal y
    pub comes : Comes y (ordinal y)
    pub least : (s : ℕ) → Comes y s → ordinal y ≤ s
    -- the first year's (y = 0), stepped on ordinal(y) − 1 times, is it
    pub chain : Same (times (ordinal y - 1) (following K halved) (conjunction_of P K halved 0)) (conjunction_of P K halved y)
    -- and the number of steps never falls
    pub never_falls : (z : ℕ) → y ≤ z → ordinal y ≤ ordinal z
