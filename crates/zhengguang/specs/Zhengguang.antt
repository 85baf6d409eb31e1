-- The Zhengguang calendar's numbers (02 §9; 001), named once.
-- Assumes nothing.
use Rattle.std.specs.Prelude.{ℕ}
use Rattle.reckoning.specs.Rule.{Rule}
use Rattle.reckoning.specs.Means.{Means}
use Rattle.reckoning.specs.Chapters.{chapter_rest}
use Rattle.lunisolar.specs.Calendars.{means_of, rule_of}
use Rattle.lunisolar.specs.declared.Constants.{Constants}

-- the day divisor (日法)
abbrev pub N : ℕ
N = 74952

-- the degree divisor (度法, 蔀法)
abbrev pub D : ℕ
D = 6060

-- the days of the year over D and of the month over N (周天分, 月通): 365 days and 1,477 parts (斗分)
abbrev pub P : ℕ
P = 2213377

-- the node half-round (會通)
abbrev pub M : ℕ
M = 12989904

-- a chapter: its years (章歲), months (章月) and leap months (章閏)
abbrev pub chapter_years : ℕ
chapter_years = 505

abbrev pub chapter_months : ℕ
chapter_months = 6246

abbrev pub chapter_leaps : ℕ
chapter_leaps = 186

-- the years of an era (紀)
abbrev pub era_years : ℕ
era_years = 60600

-- the great round (元): its years, numbered from 1, its months and days, numbered from 0. The year Xiaochang 3 is 167,756
abbrev pub round_years : ℕ
round_years = 363600

abbrev pub round_months : ℕ
round_months = 4497120

abbrev pub round_days : ℕ
round_days = 132802620

abbrev pub zhengguang : Constants
zhengguang =
    record { year = P; degree = D; month = P; day = N; first = 1; years = round_years; lunations = round_months; days = round_days }

abbrev pub means : Means
means = means_of zhengguang

-- its leap rule
abbrev pub rule : Rule
rule = rule_of zhengguang

-- the leap remainder (閏餘) of the year with y years past: 6246·y mod 505. It does not decide the month count (02 §4)
abbrev pub leap_remainder : ℕ → ℕ
leap_remainder y = chapter_rest chapter_months chapter_years y
