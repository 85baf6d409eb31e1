use mathlib.Core.Path.{sym}
use Rattle.reckoning.proofs.Moons.{month_of_day}
use Rattle.lunisolar.specs.Calendars.{means_of}
use Rattle.lunisolar.proofs.means.month_of_day.Goals as goal

pub returns : goal.returns
returns c = sym (month_of_day (means_of c.args.k.constants) c.args.k.sound.moon c.args.d)
