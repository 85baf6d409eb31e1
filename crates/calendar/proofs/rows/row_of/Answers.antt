use native.Mathlib.Omega.{arith}
use Rattle.lunisolar.proofs.Rounds.{year_in_round}
use Rattle.units.specs.Xinghe.{xinghe}
use Rattle.units.proofs.Sound.{sound}
use Rattle.calendar.proofs.rows.row_of.Goals as goal

pub begun-requires : goal.begun-requires
begun-requires c = omega (arith, c.year_of-y.ensures, year_in_round xinghe sound c.args.lunation c.requires)

pub row_from-requires : goal.row_from-requires
row_from-requires c = (c.begun.ensures.0, c.requires, rw c.begun.ensures.1 c.year_of-y.ensures)
