use mathlib.Core.Path.{ap, ◌∙◌}
use Prim.Native.Nat.{ℕ}
use lib.Dec.{eqb}
use Rattle.lunisolar.proofs.Figures.{at_leap}
use Rattle.lunisolar.proofs.naming.leap_at.Goals as goal

pub returns : goal.returns
returns c =
    ap (λ (l : ℕ). eqb c.args.place l) c.leap_from.ensures ∙ at_leap c.args.place c.requires c.args.leap
