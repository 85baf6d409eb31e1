use mathlib.Core.Path.{◌≡◌, sym, ap, ◌∙◌}
use mathlib.Core.Bool.{Bool, true, false, ◌&&◌}
use Rattle.units.specs.Xinghe.{is_year}
use Rattle.blocks.specs.Check.{right_check}
use Rattle.mending.specs.FirstYear.{year_in, sound}
use Rattle.mending.proofs.FirstYears.{turned}
use Rattle.mending.proofs.is_sound.Goals as goal

pub returns-then-is_year : goal.returns-then-is_year
unfolding sound
returns-then-is_year c =
    let tested : c.is_year.result ≡ is_year (year_in c.args.block.now) = c.is_year.ensures ∙ ap is_year c.u32_at.ensures.0 in
    let b = c.args.block.now in
    let year : is_year (year_in b) ≡ true = sym tested ∙ c.if-is_year.true in
    c.right_check.ensures ∙ ap (λ (y : Bool). y && right_check b) (sym year) ∙ turned (is_year (year_in b)) (right_check b)

pub returns-else-is_year : goal.returns-else-is_year
unfolding sound
returns-else-is_year c =
    let tested : c.is_year.result ≡ is_year (year_in c.args.block.now) = c.is_year.ensures ∙ ap is_year c.u32_at.ensures.0 in
    let b = c.args.block.now in
    let year : is_year (year_in b) ≡ false = sym tested ∙ c.if-is_year.false in
    ap (λ (y : Bool). y && right_check b) (sym year) ∙ turned (is_year (year_in b)) (right_check b)
