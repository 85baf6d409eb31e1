-- A planet's conjunctions (02 §1), in parts over D: over any year of P parts, any planet's number K, and whether half of it is taken off.
-- Years are counted from 0, as the years past: the solstice of year y stands at y·P.
-- Assumes nothing.
use Rattle.std.specs.Prelude.{Bool, ◌&&◌, ℕ, ◌+◌, ◌-◌, ◌*◌, ◌/◌, ◌%◌, leb}
use Rattle.reckoning.specs.Search.{pick}
use Rattle.planets.specs.declared.Apparition.{Apparition}
use Rattle.planets.specs.declared.synodic.ConjunctionParts.{ConjunctionParts}

module _ (P K : ℕ) where
  -- y·P divided by the planet's number leaves a rest (合餘)
  unfoldable pub rest : ℕ → ℕ
  rest y = y * P % K

  -- the number less the rest (入歲度分): a rest of 0 gives the full number
  unfoldable pub remaining : ℕ → ℕ
  remaining y = K - rest y

module _ (K : ℕ) (halved : Bool) where
  -- a halved planet takes the half off a time that is at least half the number
  unfoldable pub takes_half : ℕ → Bool
  takes_half t = halved && leb (K / 2) t

  -- off it comes, once only
  unfoldable pub less_half : ℕ → ℕ
  less_half t = pick (takes_half t) (t - K / 2) t

  -- then it is a morning conjunction (晨合), else an evening one (夕合); of a planet that isn't halved it is neither
  unfoldable pub kind_from : ℕ → Apparition
  kind_from t = pick halved (pick (takes_half t) Apparition.Morning Apparition.Evening) Apparition.Neither

module _ (P K : ℕ) (halved : Bool) where
  -- the time from the solstice to the next conjunction, and its kind
  unfoldable pub time : ℕ → ℕ
  time y = less_half K halved (remaining P K y)

  unfoldable pub kind : ℕ → Apparition
  kind y = kind_from K halved (remaining P K y)

  -- THE CONJUNCTION OF YEAR y: it stands that time after the solstice
  unfoldable pub conjunction_of : ℕ → ConjunctionParts
  conjunction_of y = record { instant = y * P + time y; time = time y; kind = kind y }

-- morning and evening turned about
abbrev pub turned : Apparition → Apparition
turned Apparition.Neither = Apparition.Neither
turned Apparition.Morning = Apparition.Evening
turned Apparition.Evening = Apparition.Morning

module _ (K : ℕ) (halved : Bool) where
  -- from a conjunction to the one after it: the number (合終日數 and 日餘), or of a halved planet the half (一合日數 and 合日餘)
  abbrev pub interval : ℕ
  interval = pick halved (K / 2) K

  -- THE CONJUNCTION AFTER IT (後合): that much later, its time still from the same solstice, morning and evening turned about
  unfoldable pub following : ConjunctionParts → ConjunctionParts
  following c = record { instant = c.instant + interval; time = c.time + interval; kind = turned c.kind }
