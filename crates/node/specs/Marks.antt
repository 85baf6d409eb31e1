-- Marked eclipses counted (02 §6): of the months before month m, those whose new moon is marked, and those whose full moon is.
-- Assumes nothing.
use Rattle.std.specs.Prelude.{Bool, ℕ}
use Rattle.reckoning.specs.Search.{count}
use Rattle.node.specs.Nodes.{nodes_of}

-- whether an eclipse is marked at the new moon of month m, and at its full moon
abbrev pub new_marked : ℕ → Bool
new_marked m = (nodes_of m).new.eclipse.marked

abbrev pub full_marked : ℕ → Bool
full_marked m = (nodes_of m).full.eclipse.marked

abbrev pub new_moons_marked : ℕ → ℕ
new_moons_marked m = count new_marked m

abbrev pub full_moons_marked : ℕ → ℕ
full_moons_marked m = count full_marked m
