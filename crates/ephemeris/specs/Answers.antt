-- The values of each answer where it is refused: all zero (01, "Numbers returned"). The side's zero is
-- "at the node".
-- Assumes nothing.
use Rattle.std.specs.Prelude.{false, pos}
use Rattle.moon.specs.declared.phases.Phase.{Phase}
use Rattle.moon.specs.declared.phases.Phases.{Phases}
use Rattle.node.specs.declared.Distance.{Distance}
use Rattle.node.specs.declared.Side.{Side}
use Rattle.node.specs.declared.Node.{Node}
use Rattle.node.specs.declared.Nodes.{Nodes}
use Rattle.anomaly.specs.declared.Corrected.{Corrected}
use Rattle.anomaly.specs.declared.Corrections.{Corrections}
use Rattle.sun.specs.declared.Point.{Point}

abbrev zero_phase : Phase
zero_phase = record { day = 0; remainder = record { parts = 0 }; quarters = 0 }

abbrev pub zero_phases : Phases
zero_phases = record { new = zero_phase; first = zero_phase; full = zero_phase; last = zero_phase }

abbrev zero_distance : Distance
zero_distance = record { degrees = 0; remainder = record { parts = 0 }; half = 0 }

abbrev zero_node : Node
zero_node = record { distance = zero_distance; eclipse = record { marked = false; distance = zero_distance; size = 0 } }

abbrev pub zero_nodes : Nodes
zero_nodes = record { new = zero_node; side = Side.AtNode; full = zero_node }

abbrev zero_corrected : Corrected
zero_corrected =
    record {
      anomaly = record { day = 0; rest = record { parts = 0 }; half = 0 };
      correction = pos 0;
      day = 0;
      remainder = record { parts = 0 };
      half = 0;
    }

abbrev pub zero_corrections : Corrections
zero_corrections = record { new = zero_corrected; full = zero_corrected }

abbrev pub zero_point : Point
zero_point = record { day = 0; remainder = record { parts = 0 }; rest = 0 }
