-- The values of each answer where it is refused: all zero (01, "Numbers returned").
-- Assumes nothing.
use Rattle.std.specs.Prelude.{false}
use Rattle.mean_calendar.specs.declared.MeanHead.{MeanHead}
use Rattle.mean_calendar.specs.declared.MeanMonth.{MeanMonth}
use Rattle.mean_calendar.specs.declared.MeanPoint.{MeanPoint}

abbrev pub zero_head : MeanHead
zero_head = record { before = 0; months = 0; leap = 0; solstice = 0; remainder = record { parts = 0 } }

abbrev pub zero_month : MeanMonth
zero_month =
    record { lunation = 0; year = 0; place = 0; number = 0; leap = false; day = 0; remainder = record { parts = 0 }; length = 0 }

abbrev pub zero_point : MeanPoint
zero_point = record { day = 0; remainder = record { parts = 0 }; rest = 0 }
