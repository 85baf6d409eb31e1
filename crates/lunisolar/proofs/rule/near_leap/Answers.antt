use native.Mathlib.Omega.{arith}
use Rattle.lunisolar.proofs.Near.{before_room, month_room, gap_room, solstice_first, gap_bound, near_room, near_some, near_is}
use Rattle.lunisolar.proofs.Laws.{product}
use Rattle.lunisolar.proofs.rule.near_leap.Goals as goal

pub overflow_add-gap : goal.overflow_add-gap
overflow_add-gap c = omega (arith, before_room c.args.year.calendar.constants c.args.year.calendar.sound c.args.year.past c.args.year.low c.args.year.before c.args.year.counted)

pub overflow_mul-gap : goal.overflow_mul-gap
overflow_mul-gap c = omega (arith, month_room c.args.year.calendar.constants c.args.year.calendar.sound c.args.year.past c.args.year.low c.args.year.before c.args.year.counted)

pub overflow_mul-gap-2 : goal.overflow_mul-gap-2
overflow_mul-gap-2 c = omega (arith, gap_room c.args.year.calendar.constants c.args.year.calendar.sound c.args.year.past c.args.year.low c.args.year.before c.args.year.counted)

pub overflow_sub-gap : goal.overflow_sub-gap
overflow_sub-gap c = omega (arith, solstice_first c.args.year.calendar.constants c.args.year.calendar.sound c.args.year.past c.args.year.low c.args.year.before c.args.year.counted)

pub overflow_mul-result : goal.overflow_mul-result
overflow_mul-result c =
    omega (
      arith,
      gap_bound c.args.year.calendar.constants c.args.year.calendar.sound c.args.year.past c.args.year.low c.args.year.before c.args.year.counted,
      product c.args.year.calendar.constants.year c.args.year.calendar.constants.day 16777216 262144 (omega (arith, c.args.year.calendar.sound.year)) (omega (arith, c.args.year.calendar.sound.divisor)),
    )

pub overflow_sub-result : goal.overflow_sub-result
overflow_sub-result c =
    omega (arith, solstice_first c.args.year.calendar.constants c.args.year.calendar.sound c.args.year.past c.args.year.low c.args.year.before c.args.year.counted)

pub returns : goal.returns
returns c =
    let k = c.args.year.calendar.constants in
    let s = c.args.year.calendar.sound in
    let y = c.args.year.past in
    let b = c.args.year.before in (
      omega (arith, near_room k s y c.args.year.low b c.args.year.counted),
      near_some k s y c.args.year.low b c.args.year.counted,
      near_is k s y c.args.year.low b c.args.year.counted,
    )
