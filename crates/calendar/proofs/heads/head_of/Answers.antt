use mathlib.Core.Path.{refl}
use Rattle.calendar.specs.Heads.{head_of}
use Rattle.calendar.proofs.heads.head_of.Goals as goal

pub returns : goal.returns
unfolding head_of
returns c =
    rw (
      c.begun-year.result.counted,
      c.begun-year.ensures.0,
      c.leap_remainder-remainder.ensures,
      c.year_months-months.ensures,
      c.begun-year.ensures.1,
      c.winter_solstice-solstice.ensures,
    )
    refl
