use mathlib.Core.Path.{◌∙◌}
use Rattle.reckoning.specs.Means.{new_moon_rest}
use Rattle.lunisolar.proofs.Days.{length_is}
use Rattle.lunisolar.proofs.means.month_length.Goals as goal

pub returns : goal.returns
unfolding new_moon_rest
returns c = c.length_by.ensures ∙ length_is c.args.k.constants c.args.k.sound c.args.m
