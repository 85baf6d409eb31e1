use native.Mathlib.Omega.{arith}
use mathlib.Core.Path.{◌≡◌, sym, ap, ◌∙◌}
use mathlib.Core.Bool.{Bool, true}
use mathlib.Core.List.{List}
use Rattle.lunisolar.specs.declared.Constants.{Constants}
use Prim.Native.Nat.{ℕ, ◌<◌}
use mir.Syntax.{w64}
use mir.Val.{to_z, of_z}
use Rattle.lunisolar.proofs.Laws.{lunations_bound}
use Rattle.walking.specs.Fields.{named_month}
use Rattle.walking.proofs.Program.{in_round_lem, final_below}
use Rattle.walking.proofs.Arrivals.{arrived}
use Rattle.std.specs.Prelude.{Ok}
use Rattle.mean_calendar.specs.Carries.{months_of, genuine_fields}
use Rattle.mean_calendar.proofs.Lawful.{lawful}
use borrow.Author.Rules.{rules}
use Rattle.mean_walk.proofs.walk_tested.Goals as goal

-- past the test the numbers are genuine, and so their month is one of the calendar's
from : (k : Constants) (start : List ℕ) (tested : Bool) → tested ≡ genuine_fields k start → tested ≡ true → named_month start < k.lunations
from k start tested e h = in_round_lem k.lunations (named_month start) _ (sym e ∙ h)

pub arrive-end-requires : goal.arrive-end-requires
arrive-end-requires c =
    (from c.args.k.constants c.args.start.now c.args.genuine c.requires c.if-genuine.true, omega (arith, lunations_bound c.args.k.constants c.args.k.sound))

pub month_of-row-requires : goal.month_of-row-requires
month_of-row-requires c = (rw c.arrive-end.ensures (final_below c.args.k.constants.lunations c.args.counts.now (named_month c.args.start.now) (from c.args.k.constants c.args.start.now c.args.genuine c.requires c.if-genuine.true)))

pub returns-then-genuine : goal.returns-then-genuine
returns-then-genuine c =
    let x = c.args in
    let k = x.k.constants in
    let held : to_z w64 (of_z w64 c.arrive-end.result.sum) ≡ c.arrive-end.result.sum = search rules in
    rw (sym c.requires ∙ c.if-genuine.true, held, c.month_of-row.ensures, c.arrive-end.ensures)
    (ap Ok (arrived (months_of k) (lawful k) _ (from k x.start.now x.genuine c.requires c.if-genuine.true) x.counts.now))
