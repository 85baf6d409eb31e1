-- Distances since the last node (交會術): of the Xinghe's nodes (01, "Nodes and eclipses") what 02 §9 gives the numbers for. A distance is counted in
-- halves of a part over N, so that the full moon's is a whole number.
-- Assumes nothing.
use Rattle.std.specs.Prelude.{Result, Ok, Err, ℕ, ◌+◌, ◌*◌, ◌/◌, ◌%◌}
use Rattle.refusal.specs.declared.Refusal.{Refusal}
use Rattle.lunisolar.specs.Calendars.{lunation_at}
use Rattle.mean_calendar.specs.Parts.{over_day}
use Rattle.zhengguang.specs.Zhengguang.{P, M, zhengguang}
use Rattle.zhengguang.specs.declared.NodeDistance.{NodeDistance}
use Rattle.zhengguang.specs.declared.MonthNodes.{MonthNodes}

-- x = m·P mod M, the distance since the last node at the new moon of month m
abbrev pub since_node : ℕ → ℕ
since_node m = m * P % M

-- h halves in degrees, remainder over N and half
unfoldable pub distance_of : ℕ → NodeDistance
distance_of h = record { degrees = (over_day zhengguang (h / 2)).whole; remainder = (over_day zhengguang (h / 2)).rest; half = h % 2 }

-- a month's nodes: the distance at the new moon, and P/2 more before the rest is taken at the full moon, halves kept
unfoldable pub nodes_of : ℕ → MonthNodes
nodes_of m = record { new = distance_of (2 * since_node m); full = distance_of ((2 * m + 1) * P % (2 * M)) }

-- of the month at place p of year n: refused under 1, then under 2, as its row is
unfoldable pub nodes_for : Result ℕ Refusal → Result MonthNodes Refusal
nodes_for (Ok m) = Ok (nodes_of m)
nodes_for (Err e) = Err e

abbrev pub nodes_at : ℕ → ℕ → Result MonthNodes Refusal
nodes_at n p = nodes_for (lunation_at zhengguang n p)
