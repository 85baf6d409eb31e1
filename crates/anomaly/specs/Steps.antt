-- How far new moons are in the round of the anomaly, as the program counts it: from the origin, and on from month to month. No row is defined
-- by this.
-- Assumes nothing.
use Rattle.std.specs.Prelude.{ℕ, ◌+◌, ◌-◌, ◌*◌, ◌%◌, leb}
use Rattle.reckoning.specs.Search.{pick}
use Rattle.units.specs.Xinghe.{P, T}

-- the rest of m·P mod T
abbrev pub into_anomaly : ℕ → ℕ
into_anomaly m = m * P % T

-- a month on: P more, less T, and less T again where T or more is left
unfoldable pub next_into : ℕ → ℕ
next_into a = pick (leb T (a + P - T)) (a + P - T - T) (a + P - T)
