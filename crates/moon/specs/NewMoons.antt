-- The mean new moon of a month of the round, and the month's length (01, "Years and months").
-- Assumes nothing.
use Rattle.std.specs.Prelude.{ℕ, ◌+◌, ◌-◌, leb}
use Rattle.reckoning.specs.Search.{pick}
use Rattle.reckoning.specs.Means.{new_moon, new_moon_rest}
use Rattle.units.specs.Xinghe.{N, means, long_from, monthly_parts}
use Rattle.units.specs.Units.{DayRemainder}
use Rattle.moon.specs.declared.NewMoon.{NewMoon}

-- month m begins on day m·P / N, with small remainder m·P mod N
unfoldable pub new_moon_of : ℕ → NewMoon
new_moon_of m = record { day = new_moon means m; remainder = record { parts = new_moon_rest means m } }

-- 30 days where the small remainder is 97,883 or more, otherwise 29
unfoldable pub length_of : DayRemainder → ℕ
length_of r = pick (leb long_from r.parts) 30 29

-- the treatise's monthly addition: to the day 29, to the small remainder P − 29·N, which is 110,647; where that gives N or more, N is taken off and a day added
unfoldable pub monthly_addition : NewMoon → NewMoon
monthly_addition x =
    pick (leb N (x.remainder.parts + monthly_parts))
    (record { day = x.day + 29 + 1; remainder = record { parts = x.remainder.parts + monthly_parts - N } })
    (record { day = x.day + 29; remainder = record { parts = x.remainder.parts + monthly_parts } })
