use Rattle.calendar.specs.declared.YearHead.{YearHead}
use Rattle.std.specs.Prelude.{Result}
use Rattle.refusal.specs.declared.Refusal.{Refusal}
use Rattle.std.specs.Result.{result_unwrap_or}
use mathlib.Core.Path.{◌≡◌, refl, ap, ◌∙◌}
use Prim.Native.Nat.{suc, ◌+◌, ◌/◌, ◌<◌}
use native.Mathlib.Omega.{arith}
use lib.ListN.{length}
use Rattle.units.specs.Xinghe.{round_months}
use Rattle.calendar.specs.Heads.{year_head}
use Rattle.calendar.specs.Rows.{field_count}
use Rattle.calendar.specs.Elements.{elements_of, next_elements}
use Rattle.calendar.specs.Answers.{zero_head}
use Rattle.calendar.proofs.Steps.{next_elements_lem, elements_bound, head_before}
use Rattle.year_list.specs.Filled.{rows_from}
use Rattle.year_list.proofs.Fronts.{below_months, month_in_round}
use Rattle.xinghe.specs.Years.{rows_fields, answer_in, fill_answer_in}
use Rattle.xinghe.proofs.Fronts.{holds, one_more}
use Rattle.xinghe.proofs.xinghe_fill_year.Goals as goal

pub first_elements-elements-requires : goal.first_elements-elements-requires
first_elements-elements-requires c =
    let headed : c.year_head-head.result ≡ year_head c.args.year = c.year_head-head.ensures in
    let begins : (result_unwrap_or c.year_head-head.result zero_head).before < round_months = rw headed (head_before c.args.year) in
    begins

pub loop-i-init : goal.loop-i-init
unfolding rows_fields rows_from
loop-i-init c =
    let headed : c.year_head-head.result ≡ year_head c.args.year = c.year_head-head.ensures in
    let answered : (let x = c.args in c.answer_in-answer.result ≡ fill_answer_in x.year (length x.out.now)) = c.answer_in-answer.ensures ∙ ap (λ (h : Result YearHead Refusal). answer_in h (length c.args.out.now)) headed in
    let counted : (let x = c.args in c.unwrap_or-n.result ≡ result_unwrap_or (fill_answer_in x.year (length x.out.now)) 0) = c.unwrap_or-n.ensures ∙ ap (λ r. result_unwrap_or r 0) answered in
    let x = c.args in
    let b = (result_unwrap_or c.year_head-head.result zero_head).before in
    let e : b ≡ b + 0 = omega arith in
    (rw counted (holds x.year (length x.out.now)), refl, c.first_elements-elements.ensures ∙ ap elements_of e)

pub fields_at-requires : goal.fields_at-requires
fields_at-requires c =
    let headed : c.year_head-head.result ≡ year_head c.args.year = c.year_head-head.ensures in
    let place : (c.loop-i.i < (result_unwrap_or c.year_head-head.result zero_head).months) = let n : c.unwrap_or-n.result ≡ result_unwrap_or (answer_in c.year_head-head.result (length c.args.out.now)) 0 = c.unwrap_or-n.ensures ∙ ap (λ r. result_unwrap_or r 0) c.answer_in-answer.ensures in
    below_months c.year_head-head.result (length c.args.out.now / field_count) c.loop-i.i (omega (arith, n, c.loop-i-test.true)) in
    (headed, place, c.loop-i.invariant.2)

pub next-elements-requires : goal.next-elements-requires
next-elements-requires c =
    let headed : c.year_head-head.result ≡ year_head c.args.year = c.year_head-head.ensures in
    let place : (c.loop-i.i < (result_unwrap_or c.year_head-head.result zero_head).months) = let n : c.unwrap_or-n.result ≡ result_unwrap_or (answer_in c.year_head-head.result (length c.args.out.now)) 0 = c.unwrap_or-n.ensures ∙ ap (λ r. result_unwrap_or r 0) c.answer_in-answer.ensures in
    below_months c.year_head-head.result (length c.args.out.now / field_count) c.loop-i.i (omega (arith, n, c.loop-i-test.true)) in
    let x = c.year_head-head.result in
    rw c.loop-i.invariant.2 (elements_bound ((result_unwrap_or x zero_head).before + c.loop-i.i) (month_in_round c.args.year x c.loop-i.i headed place))

pub loop-i-preserved : goal.loop-i-preserved
loop-i-preserved c =
    let x = c.args in
    let i = c.loop-i.i in
    let b = (result_unwrap_or c.year_head-head.result zero_head).before in
    let e : suc (b + i) ≡ b + (i + 1) = omega arith in (
      c.loop-i.invariant.0,
      rw (c.put.ensures, c.fields_at.ensures, c.loop-i.invariant.1) (one_more x.year i x.out.now),
      c.next-elements.ensures ∙ ap next_elements c.loop-i.invariant.2 ∙ next_elements_lem (b + i) ∙ ap elements_of e,
    )
