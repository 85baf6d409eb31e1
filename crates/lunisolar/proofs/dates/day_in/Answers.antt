use native.Mathlib.Omega.{arith}
use mathlib.Core.Path.{refl}
use Prim.Native.Nat.{suc}
use Rattle.reckoning.proofs.Searches.{below, beyond, inside}
use Rattle.reckoning.proofs.Moons.{moon_high}
use Rattle.lunisolar.specs.Calendars.{means_of}
use Rattle.lunisolar.specs.Dates.{day_in, month_days}
use Rattle.lunisolar.proofs.Days.{next_day}
use Rattle.lunisolar.proofs.dates.day_in.Goals as goal

pub returns-then-day-lt1 : goal.returns-then-day-lt1
unfolding day_in
returns-then-day-lt1 c = let a = c.args in rw (below 1 a.day (suc (month_days a.k.constants a.m)) c.if-day-lt1.true) refl

pub returns-then-month_length-day : goal.returns-then-month_length-day
unfolding day_in
returns-then-month_length-day c =
    let a = c.args in
    rw (beyond 1 a.day (suc (month_days a.k.constants a.m)) (omega (arith, c.month_length.ensures, c.if-month_length-day.true))) refl

pub overflow_add-number : goal.overflow_add-number
overflow_add-number c =
    let M = means_of c.args.k.constants in
    omega (
      arith,
      c.requires,
      c.new_moon_day.ensures,
      c.month_length.ensures,
      next_day c.args.k.constants c.args.k.sound c.args.m,
      moon_high M c.args.k.sound.moon (suc c.args.m),
      c.if-month_length-day.false,
    )

pub returns : goal.returns
unfolding day_in
returns c =
    let a = c.args in
    rw (
      inside 1 a.day (suc (month_days a.k.constants a.m)) (omega (arith, c.if-day-lt1.false)) (omega (arith, c.month_length.ensures, c.if-month_length-day.false)),
      c.sexagenary.ensures,
      c.new_moon_day.ensures,
    )
    refl
