-- A year by value, place by place.
-- Assumes nothing.
use mathlib.Core.Path.{◌≡◌}
use Prim.Native.Nat.{ℕ, ◌<◌}
use lib.ListN.{get_or}
use Rattle.reckoning.proofs.Lists.{at_place}
use Rattle.lunisolar.specs.declared.Constants.{Constants}
use Rattle.mean_calendar.specs.Answers.{zero_month}
use Rattle.mean_year.specs.Years.{places, month_at, mean_year}

-- AT EACH PLACE STANDS THE MONTH THAT IS ANSWERED FOR IT, and zeros where none is
pub each_place : (k : Constants) (n p : ℕ) → p < places → get_or (mean_year k n).months p zero_month ≡ month_at k n p
each_place k n p h = at_place (month_at k n) zero_month places p h
