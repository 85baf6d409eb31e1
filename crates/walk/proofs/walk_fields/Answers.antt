use mathlib.Core.Path.{◌≡◌, sym, ap, ◌∙◌}
use mathlib.Core.Bool.{true}
use Prim.Native.Nat.{◌<◌}
use mir.Syntax.{w64}
use mir.Val.{to_z, of_z}
use Rattle.std.specs.Prelude.{Ok}
use Rattle.walking.specs.Fields.{named_month}
use Rattle.walking.proofs.Program.{in_round_lem, final_below}
use Rattle.walking.proofs.Arrivals.{arrived}
use Rattle.units.specs.Xinghe.{round_months}
use Rattle.calendar.specs.Carries.{months, genuine_fields}
use Rattle.calendar.proofs.Lawful.{lawful}
use borrow.Author.Rules.{rules}
use Rattle.walk.proofs.walk_fields.Goals as goal

pub row_of-row-requires : goal.row_of-row-requires
row_of-row-requires c =
    let genuine : genuine_fields c.args.start.now ≡ true = sym c.is_genuine.ensures ∙ c.if-is_genuine.true in
    let from : named_month c.args.start.now < round_months = in_round_lem round_months (named_month c.args.start.now) _ genuine in
    let x = c.args in
    rw c.arrive-end.ensures (final_below round_months x.counts.now (named_month x.start.now) from)

pub returns-then-is_genuine : goal.returns-then-is_genuine
returns-then-is_genuine c =
    let genuine : genuine_fields c.args.start.now ≡ true = sym c.is_genuine.ensures ∙ c.if-is_genuine.true in
    let from : named_month c.args.start.now < round_months = in_round_lem round_months (named_month c.args.start.now) _ genuine in
    let held : to_z w64 (of_z w64 c.arrive-end.result.sum) ≡ c.arrive-end.result.sum = search rules in
    rw (genuine, held, c.row_of-row.ensures, c.arrive-end.ensures) (ap Ok (arrived months lawful _ from c.args.counts.now))
