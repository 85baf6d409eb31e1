use Rattle.std.proofs.Common.{rules}
use Rattle.std.specs.Prelude.{ℕ, Result, Ok}
use Rattle.std.specs.Result.{result_unwrap_or}
use Rattle.refusal.specs.declared.Refusal.{Refusal}
use mathlib.Core.Path.{◌≡◌, sym, ap, ◌∙◌}
use Rattle.mean_calendar.specs.Heads.{year_head}
use Rattle.mean_calendar.specs.Months.{month_for}
use Rattle.mean_calendar.specs.Answers.{zero_month}
use Rattle.mean_calendar.proofs.Found.{past_count, no_year}
use Rattle.mean_year.proofs.month_at.Goals as goal

-- the head that the match binds
is_head : (a : goal.After-default) → (let x = a.args in Ok a.in-Ok.head ≡ year_head x.k.constants x.year)
is_head a = sym a.in-Ok.is ∙ a.requires

pub returns-else-place-head : goal.returns-else-place-head
unfolding month_for
returns-else-place-head c =
    let x = c.args in
    let none = ap (λ (m : Result ℕ Refusal). result_unwrap_or (month_for x.k.constants m) zero_month) (past_count x.k.constants x.year c.in-Ok.head (is_head c) x.place c.if-place-head.false) in
    rw none (search rules)

pub returns-in-Err : goal.returns-in-Err
unfolding month_for
returns-in-Err c =
    let x = c.args in
    let none = ap (λ (m : Result ℕ Refusal). result_unwrap_or (month_for x.k.constants m) zero_month) (no_year x.k.constants x.year _ (sym c.in-Err.is ∙ c.requires) x.place) in
    rw none (search rules)
