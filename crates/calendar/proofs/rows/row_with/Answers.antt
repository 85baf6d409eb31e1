use Rattle.std.specs.Prelude.{Ok}
use Prim.Native.Nat.{◌-◌, ◌+◌, ◌<◌}
use native.Mathlib.Omega.{arith}
use mathlib.Core.Path.{ap, sym, ◌∙◌}
use Rattle.lunisolar.specs.Calendars.{Stands}
use Rattle.lunisolar.specs.Names.{name_of}
use Rattle.lunisolar.proofs.Rounds.{in_round_lem}
use Rattle.units.specs.Xinghe.{xinghe, round_months}
use Rattle.units.proofs.Sound.{sound}
use Rattle.calendar.proofs.Round.{head_found, head_leap, head_stands, head_row}
use Rattle.calendar.proofs.rows.row_with.Goals as goal

-- where the month stands
stood : (a : goal.After-calendar) → Stands xinghe (a.args.year - 1) a.args.place (a.args.head.before + a.args.place)
stood a = head_stands a.args.year a.args.head a.requires.0 a.args.place a.requires.1

below : (a : goal.After-calendar) → a.args.head.before + a.args.place < round_months
below a = in_round_lem xinghe sound (a.args.year - 1) a.args.place _ (stood a)

pub overflow_sub-year : goal.overflow_sub-year
overflow_sub-year c = (head_found c.args.year c.args.head c.requires.0).written

pub name_under-name-requires : goal.name_under-name-requires
name_under-name-requires c =
    let s = stood c in
    rw c.calendar.ensures (omega (arith, s.year), head_leap c.args.year c.args.head c.requires.0, s.place)

pub overflow_add-head : goal.overflow_add-head
overflow_add-head c = omega (arith, below c.before.before)

pub row_named-requires : goal.row_named-requires
row_named-requires c =
    let n = rw c.calendar.ensures at c.name_under-name.ensures in
    (below c.before.before, n ∙ ap (name_of xinghe) (sym (stood c.before.before).month), c.requires.2)

pub returns : goal.returns
returns c =
    ap Ok c.row_named.ensures ∙ head_row c.args.year c.args.head c.requires.0 c.args.place c.requires.1
