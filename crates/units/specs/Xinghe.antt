-- The Xinghe calendar's numbers (01, "Numbers that everything stands on"), named once.
-- Assumes nothing.
use Rattle.std.specs.Prelude.{Bool, ℕ, suc}
use Rattle.reckoning.specs.Search.{between}
use Rattle.reckoning.specs.Rule.{Rule}
use Rattle.reckoning.specs.Means.{Means}
use Rattle.lunisolar.specs.Calendars.{means_of, rule_of}
use Rattle.lunisolar.specs.declared.Constants.{Constants}

-- the day divisor (日法)
abbrev pub N : ℕ
N = 208530

-- the degree divisor (度法, 蔀法)
abbrev pub D : ℕ
D = 16860

-- the days of the year over D and of the month over N (周天, 通數)
abbrev pub P : ℕ
P = 6158017

-- the node half-round (會通)
abbrev pub M : ℕ
M = 36142807

-- the anomaly round (通周)
abbrev pub T : ℕ
T = 5745941

-- the small circuit (小周)
abbrev pub C : ℕ
C = 7513

-- a chapter: its years (章歲), months (章月) and leap months (章閏)
abbrev pub chapter_years : ℕ
chapter_years = 562

abbrev pub chapter_months : ℕ
chapter_months = 6951

abbrev pub chapter_leaps : ℕ
chapter_leaps = 207

-- an era (紀): its years and months
abbrev pub era_years : ℕ
era_years = 168600

abbrev pub era_months : ℕ
era_months = 2085300

-- the great round (元): its years, numbered from 1, its months and days, numbered from 0
abbrev pub round_years : ℕ
round_years = 1011600

abbrev pub round_months : ℕ
round_months = 12511800

abbrev pub round_days : ℕ
round_days = 369481020

-- the year is one of the round's
abbrev pub is_year : ℕ → Bool
is_year n = between 1 n (suc round_years)

-- a month has 30 days from this small remainder on
abbrev pub long_from : ℕ
long_from = 97883

-- what the treatise's monthly addition adds to the small remainder, beside 29 days: P − 29·N
abbrev pub monthly_parts : ℕ
monthly_parts = 110647

abbrev pub xinghe : Constants
xinghe =
    record { year = P; degree = D; month = P; day = N; first = 1; years = round_years; lunations = round_months; days = round_days }

-- the year is P/D days, the month P/N days
abbrev pub means : Means
means = means_of xinghe

-- its leap rule
abbrev pub rule : Rule
rule = rule_of xinghe
