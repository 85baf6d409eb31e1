-- The month in which a day falls, where month m begins on day `day m`.
-- Assumes nothing.
use Rattle.std.specs.Prelude.{ℕ}
use Rattle.reckoning.specs.Climb.{last}

-- the last month that begins on day d or before
unfoldable pub month_of : (ℕ → ℕ) → ℕ → ℕ
month_of day d = last day d
