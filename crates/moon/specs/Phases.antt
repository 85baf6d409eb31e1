-- The four phases of a month (01, "Phases and cuts of the year").
-- Assumes nothing.
use Rattle.std.specs.Prelude.{ℕ, ◌+◌, ◌*◌, ◌/◌, ◌%◌}
use Rattle.units.specs.Xinghe.{N, P}
use Rattle.moon.specs.declared.phases.Phase.{Phase}
use Rattle.moon.specs.declared.phases.Phases.{Phases}

-- q quarter months after the origin, which is q·P quarters of a part over N: whole days, whole parts, and quarters of a part
unfoldable pub phase_at : ℕ → Phase
phase_at q = record { day = q * P / 4 / N; remainder = record { parts = q * P / 4 % N }; quarters = q * P % 4 }

-- the phases of month m lie at m + 0, 1/4, 2/4 and 3/4 months
unfoldable pub phases_of : ℕ → Phases
phases_of m = record { new = phase_at (4 * m); first = phase_at (4 * m + 1); full = phase_at (4 * m + 2); last = phase_at (4 * m + 3) }
