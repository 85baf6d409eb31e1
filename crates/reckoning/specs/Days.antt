-- The rule of days (02 §4): a middle term lies in the month whose days contain the term's day, and a year begins with the month that
-- contains its solstice's day. It needs the mean sun and moon alone.
-- Assumes nothing.
use Rattle.std.specs.Prelude.{Bool, ℕ, suc, ◌*◌}
use Rattle.reckoning.specs.Search.{between}
use Rattle.reckoning.specs.Rule.{Rule}
use Rattle.reckoning.specs.Means.{Means, new_moon, term_day}
use Rattle.reckoning.specs.Dates.{month_of}

-- the day of middle term j (中氣) is one of the days of month m, from its new moon's day to the day before the next
unfoldable pub term_in : Means → ℕ → ℕ → Bool
term_in M m j = between (new_moon M m) (term_day M j) (new_moon M (suc m))

-- the months before year y are those before the month that contains the day of its solstice (冬至), which is its first middle term; that
-- month is the year's first (天正十一月)
unfoldable pub by_days : Means → Rule
by_days M = record { before = λ y. month_of (new_moon M) (term_day M (12 * y)); holds = term_in M }
