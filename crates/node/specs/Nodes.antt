-- A month's nodes (01, "Nodes and eclipses"): the distance since the last node at the new moon, and P/2 more before the rest is taken at the
-- full moon, halves kept.
-- Assumes nothing.
use Rattle.std.specs.Prelude.{ℕ, ◌+◌, ◌*◌, ◌%◌}
use Rattle.units.specs.Xinghe.{P, M}
use Rattle.node.specs.Eclipses.{since_node, node_at}
use Rattle.node.specs.Sides.{side_of}
use Rattle.node.specs.declared.Nodes.{Nodes}

unfoldable pub nodes_of : ℕ → Nodes
nodes_of m = record { new = node_at (2 * since_node m); side = side_of m; full = node_at ((2 * m + 1) * P % (2 * M)) }
