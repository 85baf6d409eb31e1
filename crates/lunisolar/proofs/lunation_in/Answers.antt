use native.Mathlib.Omega.{arith}
use mathlib.Core.Path.{refl, sym, ◌∙◌}
use borrow.Author.Tests.{ltb-true}
use Rattle.reckoning.specs.Rule.{month_count}
use Rattle.lunisolar.specs.Calendars.{rule_of, lunation_for}
use Rattle.lunisolar.proofs.Laws.{before_bound, count_bound}
use Rattle.lunisolar.proofs.lunation_in.Goals as goal

pub overflow_add-result : goal.overflow_add-result
overflow_add-result c =
    let h = ltb-true c.args.place (month_count (rule_of c.args.year.calendar.constants) c.args.year.past) (sym c.has_place.ensures ∙ c.if-has_place.true) in
    omega (arith, h, c.args.year.counted, before_bound c.args.year.calendar.constants c.args.year.calendar.sound c.args.year.past, count_bound c.args.year.calendar.constants c.args.year.calendar.sound c.args.year.past)

pub returns-then-has_place : goal.returns-then-has_place
unfolding lunation_for
returns-then-has_place c = rw (← c.has_place.ensures, c.if-has_place.true, c.args.year.counted) refl

pub returns-else-has_place : goal.returns-else-has_place
unfolding lunation_for
returns-else-has_place c = rw (← c.has_place.ensures, c.if-has_place.false) refl
