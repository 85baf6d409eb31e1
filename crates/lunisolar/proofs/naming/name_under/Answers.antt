use native.Mathlib.Omega.{arith}
use Prim.Native.Nat.{◌<◌}
use Rattle.lunisolar.proofs.Laws.{count_bound}
use Rattle.lunisolar.proofs.Rounds.{name_at_lem}
use Rattle.lunisolar.proofs.naming.name_under.Goals as goal

place_in : (a : goal.After-struct_known-1) → a.args.place < 13
place_in a = omega (arith, a.requires.2, count_bound a.args.k.constants a.args.k.sound a.args.y)

pub number_at-requires : goal.number_at-requires
number_at-requires c = place_in c

pub leap_at-requires : goal.leap_at-requires
leap_at-requires c = place_in c.before

pub returns : goal.returns
returns c =
    cc (name_at_lem c.args.k.constants c.args.k.sound c.args.y c.args.place c.requires.2, c.requires.1, c.leap_at.ensures, c.number_at.ensures)
