use Rattle.lunisolar.proofs.Rounds.{in_calendar}
use Rattle.lunisolar.proofs.dates.day_of_date.Goals as goal

pub day_for-requires : goal.day_for-requires
day_for-requires c = (rw c.lunation_at.ensures (in_calendar c.args.k.constants c.args.k.sound c.args.year c.args.place))
