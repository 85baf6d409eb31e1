-- Distances since the last node, and eclipses (01, "Nodes and eclipses"). A distance is counted in halves of a part over N, so that the
-- full moon's is a whole number: h halves stand for h/2 parts.
-- Assumes nothing.
use Rattle.std.specs.Prelude.{true, false, ℕ, ◌-◌, ◌*◌, ◌/◌, ◌%◌, leb}
use Rattle.reckoning.specs.Search.{pick}
use Rattle.units.specs.Xinghe.{N, P, M}
use Rattle.node.specs.declared.Distance.{Distance}
use Rattle.node.specs.declared.Eclipse.{Eclipse}
use Rattle.node.specs.declared.Node.{Node}

-- h halves in degrees, remainder over N and half
unfoldable pub distance_of : ℕ → Distance
distance_of h = record { degrees = h / 2 / N; remainder = record { parts = h / 2 % N }; half = h % 2 }

-- x = m·P mod M, the distance since the last node at the new moon of month m: in parts, and in degrees and remainder
abbrev pub since_node : ℕ → ℕ
since_node m = m * P % M

abbrev pub distance : ℕ → Distance
distance m = distance_of (2 * since_node m)

-- an eclipse h halves from the node: its size is 15 less the whole degrees of the distance
unfoldable pub eclipse_at : ℕ → Eclipse
eclipse_at h = record { marked = true; distance = distance_of h; size = 15 - (distance_of h).degrees }

unfoldable pub no_eclipse : Eclipse
no_eclipse = record { marked = false; distance = distance_of 0; size = 0 }

-- at the distance x since the last node, of h = 2·x halves: marked where x is at most P/2, x from the node, or at least M − P/2, M − x from it
unfoldable pub eclipse_of : ℕ → Eclipse
eclipse_of h = pick (leb h P) (eclipse_at h) (pick (leb (2 * M - P) h) (eclipse_at (2 * M - h)) no_eclipse)

unfoldable pub node_at : ℕ → Node
node_at h = record { distance = distance_of h; eclipse = eclipse_of h }
