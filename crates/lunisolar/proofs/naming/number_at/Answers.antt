use mathlib.Core.Path.{ap, ◌∙◌}
use mathlib.Core.Bool.{Bool}
use Prim.Native.Nat.{ℕ}
use lib.Dec.{leb}
use Rattle.reckoning.specs.Figures.{number_by}
use Rattle.lunisolar.proofs.Figures.{from_leap}
use Rattle.lunisolar.proofs.naming.number_at.Goals as goal

pub returns : goal.returns
returns c =
    let p = c.args.place in
    c.number_by.ensures
    ∙ ap (λ (t : Bool). number_by t p) (ap (λ (l : ℕ). leb l p) c.leap_from.ensures ∙ from_leap p c.requires c.args.leap)
