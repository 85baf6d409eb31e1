use Rattle.std.proofs.Common.{refl, rules}
use Rattle.reckoning.proofs.Arrays.{made_list}
use Rattle.mean_year.specs.Years.{places}
use Rattle.zhengguang.specs.Years.{row_at}
use Rattle.zhengguang.proofs.years.year_by_value.Goals as goal

pub returns : goal.returns
returns c =
    let all = made_list _ (row_at c.args.year) _ (λ i y q w. search rules) c.from_fn-rows.result places c.from_fn-rows.ensures.items in
    rw (all, c.head_by-head.ensures) refl
