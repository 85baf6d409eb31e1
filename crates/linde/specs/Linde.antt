-- The Linde calendar's numbers (02 §9; 002), named once: mean months and middle terms. It has no chapter and no node half-round.
-- Assumes nothing.
use Rattle.std.specs.Prelude.{ℕ}
use Rattle.reckoning.specs.Rule.{Rule}
use Rattle.reckoning.specs.Means.{Means}
use Rattle.lunisolar.specs.Calendars.{means_of, rule_of}
use Rattle.lunisolar.specs.declared.Constants.{Constants}

-- the one divisor (推法, 總法): the day divisor, and the degree divisor
abbrev pub N : ℕ
N = 1340

abbrev pub D : ℕ
D = 1340

-- the month over N (恆朔實)
abbrev pub P : ℕ
P = 39571

-- the year over D (期實)
abbrev pub year_parts : ℕ
year_parts = 489428

-- its years are counts, from 0 to 300,000, multiplied as they stand; the year Linde 1 is 269,880
abbrev pub years : ℕ
years = 300001

-- the months of these years, which end before the month with the solstice of 300,001, and their days, all numbered from 0
abbrev pub lunations : ℕ
lunations = 3710517

abbrev pub days : ℕ
days = 109573782

abbrev pub linde : Constants
linde = record { year = year_parts; degree = D; month = P; day = N; first = 0; years = years; lunations = lunations; days = days }

abbrev pub means : Means
means = means_of linde

-- its leap rule
abbrev pub rule : Rule
rule = rule_of linde
