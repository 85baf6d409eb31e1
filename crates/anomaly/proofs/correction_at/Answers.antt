use mathlib.Core.Path.{sym, ◌∙◌}
use Rattle.anomaly.specs.Rates.{printed}
use Rattle.anomaly.proofs.Fair.{day_at, in_halves}
use Rattle.anomaly.proofs.correction_at.Goals as goal

pub correction_on-requires : goal.correction_on-requires
correction_on-requires c = day_at c.args.instant

pub returns : goal.returns
returns c = c.correction_on.ensures ∙ sym (in_halves printed c.args.instant)
