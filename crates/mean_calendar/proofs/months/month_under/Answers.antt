use Rattle.std.specs.Prelude.{Ok}
use native.Mathlib.Omega.{arith}
use mathlib.Core.Path.{◌≡◌, ◌∙◌, ap, sym}
use Prim.Native.Nat.{◌+◌, ◌-◌, ◌<◌}
use Rattle.reckoning.specs.Rule.{leap_place}
use Rattle.lunisolar.specs.Calendars.{Stands, rule_of}
use Rattle.lunisolar.specs.Names.{name_of}
use Rattle.lunisolar.proofs.Laws.{lunations_bound}
use Rattle.lunisolar.proofs.Rounds.{in_round_lem}
use Rattle.mean_calendar.specs.Heads.{head_of}
use Rattle.mean_calendar.proofs.Found.{HeadFound, head_found, head_stands, head_month}
use Rattle.mean_calendar.proofs.months.month_under.Goals as goal

whose : (a : goal.After-struct_known-1) → HeadFound a.args.k.constants a.args.year a.args.head
whose a = head_found a.args.k.constants a.args.year a.args.head a.requires.0

standing : (a : goal.After-struct_known-1) → Stands a.args.k.constants (a.args.year - a.args.k.constants.first) a.args.place (a.args.head.before + a.args.place)
standing a = head_stands a.args.k.constants a.args.year a.args.head a.requires.0 a.args.place a.requires.1

low : (a : goal.After-struct_known-1) → a.args.head.before + a.args.place < a.args.k.constants.lunations
low a = in_round_lem a.args.k.constants a.args.k.sound (a.args.year - a.args.k.constants.first) a.args.place (a.args.head.before + a.args.place) (standing a)

leap : (a : goal.After-struct_known-1) → a.args.head.leap ≡ leap_place (rule_of a.args.k.constants) (a.args.year - a.args.k.constants.first)
unfolding head_of
leap a = rw (whose a).is_head

pub overflow_sub-year : goal.overflow_sub-year
overflow_sub-year c = (whose c).written

pub name_under-name-requires : goal.name_under-name-requires
name_under-name-requires c = (omega (arith, (whose c).upto, c.args.k.sound.years), leap c, (standing c).place)

pub overflow_add-lunation : goal.overflow_add-lunation
overflow_add-lunation c = omega (arith, low c.before.before, lunations_bound c.args.k.constants c.args.k.sound)

pub month_length-length-requires : goal.month_length-length-requires
month_length-length-requires c = (omega (arith, low c.before.before, lunations_bound c.args.k.constants c.args.k.sound))

pub new_moon-requires : goal.new_moon-requires
new_moon-requires c = (low c.before.before.before.before)

pub month_by-requires : goal.month_by-requires
month_by-requires c =
    (c.name_under-name.ensures ∙ ap (name_of c.args.k.constants) (sym (standing c.before.before.before.before.before).month), c.new_moon.ensures, c.month_length-length.ensures)

pub returns : goal.returns
returns c =
    ap Ok c.month_by.ensures ∙ head_month c.args.k.constants c.args.year c.args.head c.requires.0 c.args.place c.requires.1
