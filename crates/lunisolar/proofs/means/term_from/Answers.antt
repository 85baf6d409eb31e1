use Rattle.reckoning.proofs.Days.{term_from}
use Rattle.lunisolar.specs.Calendars.{means_of}
use Rattle.lunisolar.proofs.means.term_from.Goals as goal

pub returns : goal.returns
returns c = term_from (means_of c.args.k.constants) c.args.k.sound.sun c.args.j c.args.d
