use Rattle.std.proofs.Common.{refl, rules}
use Rattle.reckoning.proofs.Arrays.{made_list}
use Rattle.mean_year.specs.Years.{places, month_at}
use Rattle.mean_year.proofs.year_under.Goals as goal

pub returns : goal.returns
returns c =
    let x = c.args in
    let all = made_list _ (month_at x.k.constants x.year) _ (λ i y q w. search rules) c.from_fn-months.result places c.from_fn-months.ensures.items in
    rw (all, c.requires) refl
