use mathlib.Core.Path.{refl}
use Rattle.reckoning.specs.Means.{new_moon, new_moon_rest}
use Rattle.mean_calendar.specs.Months.{month_of}
use Rattle.mean_calendar.proofs.months.month_by.Goals as goal

pub returns : goal.returns
unfolding month_of new_moon new_moon_rest
returns c = rw (c.requires.2, c.requires.1, c.requires.0) refl
