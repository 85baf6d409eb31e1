-- The values of each answer where it is refused: all zero (01, "Numbers returned").
-- Assumes nothing.
use Rattle.lunisolar.specs.declared.dates.Day.{Day}
use Rattle.lunisolar.specs.declared.dates.Date.{Date}

abbrev pub zero_day : Day
zero_day = record { number = 0; sexagenary = 0 }

abbrev pub zero_date : Date
zero_date = record { year = 0; place = 0; day = 0 }
