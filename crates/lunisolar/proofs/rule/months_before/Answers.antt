use mathlib.Core.Path.{ap, ◌∙◌}
use Rattle.reckoning.specs.Means.{new_moon}
use Rattle.reckoning.specs.Dates.{month_of}
use Rattle.reckoning.specs.Days.{by_days}
use Rattle.lunisolar.specs.Calendars.{means_of}
use Rattle.lunisolar.proofs.Laws.{solstice_day}
use Rattle.lunisolar.proofs.rule.months_before.Goals as goal

pub returns : goal.returns
unfolding by_days
returns c =
    c.month_of_day.ensures ∙ ap (month_of (new_moon (means_of c.args.k.constants))) (solstice_day c.args.k.constants c.args.k.sound c.args.y)
