use Rattle.calendar.specs.declared.YearHead.{YearHead}
use Rattle.std.specs.Prelude.{Result}
use Rattle.refusal.specs.declared.Refusal.{Refusal}
use Rattle.std.specs.Result.{result_unwrap_or}
use native.Mathlib.Omega.{arith}
use native.Mathlib.Numerals.{add-one}
use mathlib.Core.Path.{◌≡◌, ap, ◌∙◌}
use Prim.Native.Nat.{suc, ◌+◌, ◌≤◌, ◌<◌}
use Rattle.writing.proofs.Writings.{wrote_none, wrote_to, and_then}
use Rattle.calendar.specs.Answers.{zero_head}
use Rattle.calendar.specs.Elements.{elements_of, next_elements}
use Rattle.calendar.proofs.Steps.{next_elements_lem, elements_bound, head_before}
use Rattle.year_list.proofs.Fronts.{month_in_round}
use Rattle.blocks.specs.Block.{records}
use Rattle.blocks.proofs.Blocks.{at_most_13}
use Rattle.blocks.proofs.put_records.Goals as goal

pub first_elements-elements-requires : goal.first_elements-elements-requires
first_elements-elements-requires c = rw c.requires.1 (head_before c.args.year)

pub loop-place-init : goal.loop-place-init
unfolding records
loop-place-init c =
    let b = (result_unwrap_or c.args.head zero_head).before in
    let e : b ≡ b + 0 = omega arith in
    (wrote_none c.args.out.now 8, c.first_elements-elements.ensures ∙ ap elements_of e)

pub put_record-requires : goal.put_record-requires
put_record-requires c =
    let few : c.args.n ≤ 13 = omega (arith, c.requires.2, ap (λ (h : Result YearHead Refusal). (result_unwrap_or h zero_head).months) c.requires.1, at_most_13 c.args.year) in
    omega (arith, few, c.loop-place.invariant.0.long)

pub next-elements-requires : goal.next-elements-requires
next-elements-requires c =
    let place : (c.loop-place.place < (result_unwrap_or c.args.head zero_head).months) = omega (arith, c.requires.2, c.loop-place-test.true) in
    let i = c.loop-place.place in
    rw c.loop-place.invariant.1
    (elements_bound ((result_unwrap_or c.args.head zero_head).before + i) (month_in_round c.args.year c.args.head i c.requires.1 place))

pub loop-place-preserved : goal.loop-place-preserved
unfolding records
loop-place-preserved c =
    let l = c.loop-place in
    let b = (result_unwrap_or c.args.head zero_head).before in
    let e : suc (b + l.place) ≡ b + (l.place + 1) = omega arith in (
      rw (add-one l.place, ← c.row_with-row.ensures) (wrote_to (omega arith) (and_then l.invariant.0 c.put_record.ensures)),
      c.next-elements.ensures ∙ ap next_elements l.invariant.1 ∙ next_elements_lem (b + l.place) ∙ ap elements_of e,
    )
