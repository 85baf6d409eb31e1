use native.Mathlib.Omega.{arith}
use mathlib.Core.Path.{sym}
use borrow.Author.Tests.{lt-ltb}
use Rattle.reckoning.specs.Rule.{month_count}
use Rattle.reckoning.proofs.Leaps.{year_low, year_ends}
use Rattle.lunisolar.specs.Calendars.{rule_of}
use Rattle.lunisolar.proofs.Laws.{laws_of}
use Rattle.lunisolar.proofs.has_place.Goals as goal

pub returns-then-place-lt12 : goal.returns-then-place-lt12
returns-then-place-lt12 c =
    let R = rule_of c.args.year.calendar.constants in
    let L = laws_of c.args.year.calendar.constants c.args.year.calendar.sound in
    sym
    (lt-ltb c.args.place (month_count R c.args.year.past)
    (omega (arith, c.if-place-lt12.true, year_low R L c.args.year.past, year_ends R L c.args.year.past)))
