-- A calendar's two units (01, "Numbers that everything stands on"): a remainder over its day divisor and one over its degree divisor.
-- Assumes nothing.
use Rattle.std.specs.Prelude.{ℕ, ◌/◌, ◌%◌}
use Rattle.lunisolar.specs.declared.Constants.{Constants}
use Rattle.mean_calendar.specs.declared.parts.DayShare.{DayShare}
use Rattle.mean_calendar.specs.declared.parts.DegreeShare.{DegreeShare}

-- parts over the day divisor (日法): each whole divisor is a day, or a degree
abbrev pub over_day : Constants → ℕ → DayShare
over_day k n = record { whole = n / k.day; rest = record { parts = n % k.day } }

-- parts over the degree divisor (度法): each whole divisor is a day
abbrev pub over_degree : Constants → ℕ → DegreeShare
over_degree k n = record { whole = n / k.degree; rest = record { parts = n % k.degree } }
