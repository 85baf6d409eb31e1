-- A year that is begun: how many months there may be before it.
-- Assumes nothing.
use mathlib.Core.Path.{◌≡◌}
use Prim.Native.Nat.{◌*◌, ◌≤◌}
use Rattle.lunisolar.specs.declared.Year.{Year}
use Rattle.lunisolar.proofs.Laws.{before_bound}

pub room : (year : Year) → year.before ≤ 13 * year.past
room year = rw year.counted (before_bound year.calendar.constants year.calendar.sound year.past)
