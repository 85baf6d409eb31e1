-- The values of each answer where it is refused: all zero (01, "Numbers returned").
-- Assumes nothing.
use Rattle.mean_calendar.specs.Answers as mean
use Rattle.zhengguang.specs.declared.NodeDistance.{NodeDistance}
use Rattle.zhengguang.specs.declared.MonthNodes.{MonthNodes}
use Rattle.zhengguang.specs.declared.ZhengguangHead.{ZhengguangHead}
use Rattle.zhengguang.specs.declared.ZhengguangRow.{ZhengguangRow}

abbrev pub zero_head : ZhengguangHead
zero_head = record { mean = mean.zero_head; remainder = 0 }

abbrev pub zero_row : ZhengguangRow
zero_row = record { mean = mean.zero_month; degrees = 0; residue = record { parts = 0 } }

abbrev pub zero_distance : NodeDistance
zero_distance = record { degrees = 0; remainder = record { parts = 0 }; half = 0 }

abbrev pub zero_nodes : MonthNodes
zero_nodes = record { new = zero_distance; full = zero_distance }
