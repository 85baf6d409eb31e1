-- The winter solstice with which a year begins (01, "Years and months").
-- Assumes nothing.
use Rattle.std.specs.Prelude.{ℕ, ◌*◌, ◌/◌, ◌%◌}
use Rattle.units.specs.Xinghe.{P, D}
use Rattle.sun.specs.declared.Solstice.{Solstice}

-- the solstice is y·P/D: whole days, and the remainder over D
unfoldable pub solstice_of : ℕ → Solstice
solstice_of y = record { day = y * P / D; remainder = record { parts = y * P % D } }
