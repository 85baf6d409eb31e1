use native.Mathlib.Omega.{arith}
use native.Mathlib.Nat.{mul-pos}
use native.Mathlib.Numerals.{add-one}
use mathlib.Core.Path.{◌≡◌, sym, ◌∙◌, ap}
use Prim.Native.Nat.{suc, ◌*◌, ◌<◌, ◌≤◌}
use Rattle.reckoning.specs.Means.{new_moon}
use Rattle.reckoning.proofs.Moons.{moon_high}
use Rattle.reckoning.proofs.Days.{year_of_month}
use Rattle.lunisolar.specs.Calendars.{means_of}
use Rattle.lunisolar.proofs.Laws.{product, days_climb}
use Rattle.lunisolar.proofs.rule.year_of.Goals as goal

-- the next month's first day
next : (a : goal.After-struct_known-1) → a.new_moon_day.result ≡ new_moon (means_of a.args.k.constants) (suc a.args.m)
next a = a.new_moon_day.ensures ∙ ap (new_moon (means_of a.args.k.constants)) (add-one a.args.m)

room : (a : goal.After-struct_known-1) → a.new_moon_day.result * a.args.k.constants.degree ≤ 503316480 * 16777216
room a =
    product a.new_moon_day.result a.args.k.constants.degree 503316480 16777216
    (omega (arith, next a, moon_high (means_of a.args.k.constants) a.args.k.sound.moon (suc a.args.m), a.requires))
    (omega (arith, a.args.k.sound.sun.short, a.args.k.sound.year))

some : (a : goal.After-struct_known-1) → 0 < a.new_moon_day.result * a.args.k.constants.degree
some a =
    mul-pos (omega (arith, next a, (days_climb a.args.k.constants a.args.k.sound).step a.args.m)) a.args.k.sound.sun.den

pub overflow_mul-result : goal.overflow_mul-result
overflow_mul-result c = omega (arith, room c)

pub overflow_sub-result : goal.overflow_sub-result
overflow_sub-result c = omega (arith, some c)

pub returns : goal.returns
returns c =
    rw (next c.before) (sym (year_of_month (means_of c.args.k.constants) c.args.k.sound.moon c.args.k.sound.sun c.args.m))
