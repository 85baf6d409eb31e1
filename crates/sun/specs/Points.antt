-- The points of a cut of the year (01, "Phases and cuts of the year").
-- Assumes nothing.
use Rattle.std.specs.Prelude.{Bool, ◌||◌, ℕ, ◌+◌, ◌*◌, ◌/◌, ◌%◌, eqb}
use Rattle.units.specs.Xinghe.{P, D}
use Rattle.sun.specs.declared.Point.{Point}

-- the year is cut in 24 terms, 72 pentads or 60 hexagram days
abbrev pub is_cut : ℕ → Bool
is_cut c = eqb c 24 || eqb c 60 || eqb c 72

-- point i of cut c is the solstice y·P/D plus i·P/c over D, which is (y·c + i)·P parts of 1/c over D: whole days, whole parts over D, and the rest over c
unfoldable pub point_of : ℕ → ℕ → ℕ → Point
point_of y c i =
    record { day = (y * c + i) * P / c / D; remainder = record { parts = (y * c + i) * P / c % D }; rest = (y * c + i) * P % c }
