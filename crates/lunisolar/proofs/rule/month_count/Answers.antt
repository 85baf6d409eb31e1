use Rattle.lunisolar.proofs.Years.{room}
use native.Mathlib.Omega.{arith}
use mathlib.Core.Path.{◌≡◌}
use Prim.Native.Nat.{◌+◌, ◌*◌, ◌≤◌}
use mir.Val.{bool_byte}
use Rattle.reckoning.specs.Rule.{month_count}
use Rattle.lunisolar.specs.Calendars.{rule_of}
use Rattle.lunisolar.proofs.Laws.{count_by}
use Rattle.lunisolar.proofs.rule.month_count.Goals as goal

is_count : (a : goal.After-term_reaches) → 12 + bool_byte a.term_reaches.result ≡ month_count (rule_of a.args.year.calendar.constants) a.args.year.past
is_count a =
    rw (a.term_reaches.ensures, a.args.year.counted) (count_by a.args.year.calendar.constants a.args.year.calendar.sound a.args.year.past)

pub overflow_add-year-2 : goal.overflow_add-year-2
overflow_add-year-2 c = omega (arith, room c.args.year)

pub term_reaches-requires : goal.term_reaches-requires
term_reaches-requires c = (omega (arith, c.args.year.low), omega (arith, c.args.year.low, room c.args.year))

pub returns : goal.returns
returns c = is_count c
