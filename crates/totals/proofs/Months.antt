-- The marked moons of a run of the round's years, over its months.
-- Assumes nothing.
use mathlib.Core.Path.{◌≡◌, refl}
use mathlib.Core.Bool.{Bool}
use Prim.Native.Nat.{ℕ, ◌+◌, ◌-◌, ◌≤◌}
use native.Mathlib.Omega.{arith}
use Rattle.reckoning.specs.Search.{count}
use Rattle.reckoning.proofs.Counts.{count_on}
use Rattle.reckoning.proofs.Climbs.{climb_by}
use Rattle.reckoning.proofs.Leaps.{years_climb}
use Rattle.units.specs.Xinghe.{rule, round_years}
use Rattle.units.proofs.Sound.{laws}
use Rattle.node.specs.Marks.{new_marked, full_marked}
use Rattle.totals.specs.Totals.{totals, over_months}
use Rattle.totals.proofs.Years.{of_first, more_news, more_fulls}

module _ (from to : ℕ) (written : 1 ≤ from) (order : from ≤ to) (in_round_lem : to ≤ round_years) where
  months : rule.before (from - 1) + (rule.before to - rule.before (from - 1)) ≡ rule.before to
  months =
      let e : from - 1 + (to + 1 - from) ≡ to = omega arith in
      omega (arith, rw e at (climb_by rule.before (years_climb rule laws) (to + 1 - from) (from - 1)))

  -- what is marked before the year after the run, less what is before the run
  the_run : (f : ℕ → Bool) (all start run : ℕ) → all ≡ start + run → all ≡ count f (rule.before to) → start ≡ count f (rule.before (from - 1)) → run ≡ over_months f from to
  the_run f all start run e a s =
      let on = count_on f (rule.before (from - 1)) (rule.before to - rule.before (from - 1)) in
      omega (arith, e, a, s, rw months at on)

  -- THE TOTALS OF A RUN OF YEARS COUNT EVERY MONTH OF IT: the new moons at which an eclipse is marked, and the full moons
  pub news_counted : (totals from (to + 1 - from)).news ≡ over_months new_marked from to
  news_counted =
      the_run new_marked (totals 1 to).news (totals 1 (from - 1)).news (totals from (to + 1 - from)).news
      (more_news from to (totals 1 to) (totals 1 (from - 1)) written order refl refl) (of_first to in_round_lem).news (of_first (from - 1) (omega arith)).news

  pub fulls_counted : (totals from (to + 1 - from)).fulls ≡ over_months full_marked from to
  fulls_counted =
      the_run full_marked (totals 1 to).fulls (totals 1 (from - 1)).fulls (totals from (to + 1 - from)).fulls
      (more_fulls from to (totals 1 to) (totals 1 (from - 1)) written order refl refl) (of_first to in_round_lem).fulls (of_first (from - 1) (omega arith)).fulls
