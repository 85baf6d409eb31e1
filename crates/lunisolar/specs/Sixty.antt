-- The day of the sixty (02 §3), the same in every calendar: each begins its days with jiazi.
-- Assumes nothing.
use Rattle.std.specs.Prelude.{ℕ, suc, ◌%◌}

-- the days of a round of day names (六十甲子)
abbrev pub sixty : ℕ
sixty = 60

-- the day of the sixty (one more than the 大餘): day 0 is jiazi, which is numbered 1, and so on to 60
abbrev pub sexagenary_of : ℕ → ℕ
sexagenary_of day = suc (day % sixty)
