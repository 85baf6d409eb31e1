use Prim.Native.Nat.{◌-◌, ◌+◌, ◌<◌}
use native.Mathlib.Omega.{arith}
use Rattle.lunisolar.proofs.Rounds.{in_round_lem}
use Rattle.units.specs.Xinghe.{xinghe, round_months}
use Rattle.units.proofs.Sound.{sound}
use Rattle.calendar.proofs.Round.{head_stands}
use Rattle.calendar.proofs.rows.row_under.Goals as goal

below : (a : goal.After-struct_known-1) → a.args.head.before + a.args.place < round_months
below a = in_round_lem xinghe sound (a.args.year - 1) a.args.place _ (head_stands a.args.year a.args.head a.requires.0 a.args.place a.requires.1)

pub overflow_add-head : goal.overflow_add-head
overflow_add-head c = omega (arith, below c)

pub elements_of-requires : goal.elements_of-requires
elements_of-requires c = below c
