-- The values of each answer where it is refused: all zero (01, "Numbers returned").
-- Assumes nothing.
use Rattle.std.specs.Prelude.{false}
use Rattle.node.specs.declared.Side.{Side}
use Rattle.calendar.specs.declared.YearHead.{YearHead}
use Rattle.calendar.specs.declared.MonthRow.{MonthRow}

abbrev pub zero_head : YearHead
zero_head = record { before = 0; remainder = 0; months = 0; leap = 0; solstice = record { day = 0; remainder = record { parts = 0 } } }

abbrev pub zero_row : MonthRow
zero_row =
    record {
      lunation = 0;
      year = 0;
      place = 0;
      number = 0;
      leap = false;
      day = 0;
      remainder = record { parts = 0 };
      length = 0;
      degrees = 0;
      residue = record { parts = 0 };
      side = Side.AtNode;
      anomaly = 0;
      rest = record { parts = 0 };
    }
