-- Each stage is what its row means.
use Rattle.std.proofs.Common.{[], map, get_or, sym, ◌∙◌, arith, rules}
use lib.ListN.{length-map, get_or-map}
use Rattle.std.proofs.lemmas.List.{ext_get_or}
use Rattle.reckoning.proofs.Arrays.{made_at}
use Rattle.planets.specs.Rows.{stage_of}
use Rattle.planets.proofs.decode.stages_of.Goals as goal

pub returns : goal.returns
returns c =
    let rows = c.args.rows in
    let made = c.from_fn.ensures.items in
    ext_get_or (stage_of []) c.from_fn.result (map stage_of rows) (omega (arith, length-map rows stage_of, made.long))
    (λ i h.
    made_at _ (λ k. stage_of (get_or rows k [])) _ (λ j y q w. search rules) c.from_fn.result 14 made i (omega (arith, made.long)) (stage_of [])
    ∙ sym (get_or-map stage_of rows i []))
