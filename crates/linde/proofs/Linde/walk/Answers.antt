use mathlib.Core.Path.{◌∙◌, ap}
use mathlib.Core.List.{List}
use Prim.Native.Nat.{ℕ}
use Rattle.mean_walk.specs.Walked.{walk_answer_fields}
use Rattle.mean_walk.proofs.HandedIn.{walk_handed_in}
use Rattle.linde.specs.Linde.{linde}
use Rattle.linde.proofs.Linde.walk.Goals as goal

pub returns : goal.returns
returns c =
    let x = c.args in
    c.walk_fields.ensures
    ∙ ap (λ (f : List ℕ). walk_answer_fields linde f x.counts.now) c.fields-fields.ensures
    ∙ walk_handed_in linde x.start x.counts.now
