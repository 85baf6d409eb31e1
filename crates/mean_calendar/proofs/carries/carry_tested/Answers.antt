use native.Mathlib.Omega.{arith}
use mathlib.Core.Path.{sym, ◌∙◌}
use Rattle.lunisolar.proofs.Laws.{lunations_bound}
use Rattle.walking.specs.Fields.{named_month}
use Rattle.walking.proofs.Program.{in_round_lem}
use Rattle.mean_calendar.proofs.carries.carry_tested.Goals as goal

pub land-requires : goal.land-requires
land-requires c =
    (λ g. in_round_lem c.args.k.constants.lunations (named_month c.args.fields.now) _ (sym c.requires ∙ g), omega (arith, lunations_bound c.args.k.constants c.args.k.sound))
