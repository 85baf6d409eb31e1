use Rattle.std.specs.Result.{result_unwrap_or}
use Rattle.std.proofs.Common.{rules}
use Rattle.refusal.proofs.Values.{unwrapped}
use native.Mathlib.Omega.{arith}
use Prim.Native.Nat.{◌≤◌}
use mathlib.Core.Path.{◌≡◌, sym, ap}
use lib.Seq.{length-take-le}
use Rattle.calendar.specs.Heads.{year_head}
use Rattle.calendar.specs.Answers.{zero_head}
use Rattle.calendar.specs.declared.YearHead.{YearHead}
use Rattle.blocks.proofs.Blocks.{at_most_13, front, whole}
use Rattle.blocks.proofs.fill_block.Goals as goal

-- the head's values are its year's, and its months at most thirteen
headed : (a : goal.After-put_zeros-arg-1) → a.unwrap_or_default-values.result ≡ result_unwrap_or (year_head a.args.year) zero_head
headed a = rw (← a.requires.1) (unwrapped a.args.head zero_head _ (λ y p. search rules) a.unwrap_or_default-values.ensures)

few : (a : goal.After-put_zeros-arg-1) → a.unwrap_or_default-values.result.months ≤ 13
few a = omega (arith, ap (λ (h : YearHead). h.months) (headed a), at_most_13 a.args.year)

pub overflow_sub-n : goal.overflow_sub-n
overflow_sub-n c = omega (arith, few c)

pub slice_bounds-check-end-2 : goal.slice_bounds-check-end-2
slice_bounds-check-end-2 c = sym (length-take-le 228 c.put_totals.new.out (omega arith))

pub check-sum-requires : goal.check-sum-requires
check-sum-requires c = omega (arith, length-take-le 228 c.put_totals.new.out (omega arith))

pub returns : goal.returns
returns c =
    let x = c.args in
    whole x.year x.totals c.check-sum.result c.requires.0
    (front x.year x.totals c.unwrap_or_default-values.result (rw (← c.requires.1) (unwrapped x.head zero_head _ (λ y p. search rules) c.unwrap_or_default-values.ensures))
    c.put_head.ensures
    c.put_records.ensures
    c.put_zeros.ensures
    c.put_totals.ensures)
    c.check-sum.ensures c.put_zeros-2.ensures c.put_u16.ensures
