use mathlib.Core.Path.{refl}
use mir.Facts.{to_z-of_z}
use Rattle.calendar.proofs.MonthRow.carry.Goals as goal

pub returns : goal.returns
returns c = rw (c.carry_fields.ensures, c.fields-fields.ensures, to_z-of_z c.ranges.count) refl
