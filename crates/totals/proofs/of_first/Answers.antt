use native.Mathlib.Omega.{arith}
use Prim.Native.Nat.{◌-◌, ◌*◌}
use mathlib.Core.Path.{◌≡◌}
use Rattle.totals.specs.Totals.{totals}
use Rattle.totals.proofs.Years.{OfFirst, of_first, months_in_round}
use Rattle.totals.proofs.of_first.Goals as goal

of_these : (s : goal.Start) → OfFirst s.args.y (totals 1 s.args.y)
of_these s = of_first s.args.y s.requires.0

pub new_moons_marked-news-requires : goal.new_moons_marked-news-requires
new_moons_marked-news-requires c = omega (arith, c.requires, months_in_round c.args.y c.requires.0)

pub full_moons_marked-fulls-requires : goal.full_moons_marked-fulls-requires
full_moons_marked-fulls-requires c = omega (arith, c.requires, months_in_round c.args.y c.requires.0)

pub overflow_sub-result : goal.overflow_sub-result
overflow_sub-result c = omega (arith, c.requires, (of_these c.before.before).leaps)

pub returns : goal.returns
returns c =
    let t = of_these c.before.before in
    let l : c.args.months - 12 * c.args.y ≡ (totals 1 c.args.y).leaps = omega (arith, c.requires, t.leaps) in
    rw (l, c.new_moons_marked-news.ensures, c.full_moons_marked-fulls.ensures, c.requires.1, ← t.news, ← t.fulls)
