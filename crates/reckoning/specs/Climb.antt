-- The last number whose value is at most x: the year that a month lies in, the month that a day lies in.
-- Assumes nothing.
use Rattle.std.specs.Prelude.{ℕ, zero, suc, leb}
use Rattle.reckoning.specs.Search.{pick}

-- the last n up to b with f n at most x; 0 if there is none
unfoldable pub last_up_to : (ℕ → ℕ) → ℕ → ℕ → ℕ
last_up_to f x zero = 0
last_up_to f x (suc b) = pick (leb (f (suc b)) x) (suc b) (last_up_to f x b)

-- the last n with f n at most x, of an f that grows at each step: no such n is above x
unfoldable pub last : (ℕ → ℕ) → ℕ → ℕ
last f x = last_up_to f x x
