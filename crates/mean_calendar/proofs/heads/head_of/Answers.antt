use mathlib.Core.Path.{refl}
use Rattle.mean_calendar.specs.Heads.{head_of}
use Rattle.mean_calendar.proofs.heads.head_of.Goals as goal

pub returns : goal.returns
unfolding head_of
returns c =
    rw (c.over_degree-solstice.ensures, c.year_months-months.ensures, c.args.year.counted) refl
