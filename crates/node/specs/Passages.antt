-- New moons past the nodes, as the program counts them: from the origin, and on from month to month. No row is defined by this.
-- Assumes nothing.
use Rattle.std.specs.Prelude.{ℕ, ◌+◌, ◌-◌, ◌*◌, ◌/◌, leb}
use Rattle.reckoning.specs.Search.{pick}
use Rattle.units.specs.Xinghe.{P, M}
use Rattle.node.specs.Eclipses.{since_node}
use Rattle.node.specs.declared.passages.Passage.{Passage}

-- the parts since the last node, and the nodes passed since the origin, at the new moon of month m
abbrev pub passage_of : ℕ → Passage
passage_of m = record { since = since_node m; nodes = m * P / M }

-- a month on: P more, and where that makes a whole M, a node more
unfoldable pub next_passage : Passage → Passage
next_passage x =
    pick (leb M (x.since + P)) (record { since = x.since + P - M; nodes = x.nodes + 1 }) (record { since = x.since + P; nodes = x.nodes })
