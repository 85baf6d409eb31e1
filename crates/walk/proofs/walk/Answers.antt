use mathlib.Core.Path.{◌∙◌, ap}
use mathlib.Core.List.{List}
use Prim.Native.Nat.{ℕ}
use Rattle.walk.specs.Walked.{walk_answer_fields}
use Rattle.walk.proofs.HandedIn.{walk_handed_in}
use Rattle.walk.proofs.walk.Goals as goal

pub returns : goal.returns
returns c =
    let x = c.args in
    c.walk_fields.ensures
    ∙ ap (λ (f : List ℕ). walk_answer_fields f x.counts.now) c.fields-fields.ensures
    ∙ walk_handed_in x.start x.counts.now
