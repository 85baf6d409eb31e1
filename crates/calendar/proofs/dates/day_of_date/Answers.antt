use Rattle.lunisolar.proofs.Rounds.{in_calendar}
use Rattle.units.specs.Xinghe.{xinghe}
use Rattle.units.proofs.Sound.{sound}
use Rattle.calendar.proofs.dates.day_of_date.Goals as goal

pub day_for-requires : goal.day_for-requires
day_for-requires c =
    rw (c.calendar.ensures, c.lunation_at-month.ensures) (in_calendar xinghe sound c.args.year c.args.place)
