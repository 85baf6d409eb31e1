use native.Mathlib.Omega.{arith}
use Prim.Native.Nat.{suc, ◌+◌, ◌-◌}
use mathlib.Core.Path.{◌≡◌, ap, ◌∙◌}
use Rattle.reckoning.proofs.Leaps.{year_ends}
use Rattle.units.specs.Xinghe.{rule}
use Rattle.units.proofs.Sound.{laws}
use Rattle.calendar.specs.Heads.{head_of}
use Rattle.calendar.proofs.Round.{HeadFound, head_found}
use Rattle.totals.proofs.Years.{months_in_round, more_leaps, more_news, more_fulls, the_rest}
use Rattle.totals.proofs.since.Goals as goal

-- the head is its year's, and the months up to its year's end are those before the next year
found : (s : goal.After-struct_known-1) → HeadFound s.args.year s.args.head
found s = head_found s.args.year s.args.head s.requires.3

months_are : (s : goal.After-struct_known-1) → s.args.head.before + s.args.head.months ≡ rule.before s.args.year
unfolding head_of
months_are s =
    let f = found s in
    let e : suc (s.args.year - 1) ≡ s.args.year = omega (arith, f.written) in
    rw f.is_head (year_ends rule laws (s.args.year - 1) ∙ ap rule.before e)

pub overflow_add-head : goal.overflow_add-head
overflow_add-head c =
    omega (arith, months_are c, (found c).upto, (found c).written, months_in_round c.args.year (omega (arith, (found c).upto)))

pub of_first-all-requires : goal.of_first-all-requires
of_first-all-requires c = (omega (arith, (found c).upto), months_are c)

pub overflow_sub-result : goal.overflow_sub-result
overflow_sub-result c =
    omega (arith, more_leaps c.args.first c.args.year c.of_first-all.result c.args.start c.requires.0 c.requires.1 c.of_first-all.ensures c.requires.2)

pub overflow_sub-result-2 : goal.overflow_sub-result-2
overflow_sub-result-2 c =
    let all = c.of_first-all in
    omega (arith, more_news c.args.first c.args.year all.result c.args.start c.requires.0 c.requires.1 all.ensures c.requires.2)

pub overflow_sub-result-3 : goal.overflow_sub-result-3
overflow_sub-result-3 c =
    let all = c.of_first-all in
    omega (arith, more_fulls c.args.first c.args.year all.result c.args.start c.requires.0 c.requires.1 all.ensures c.requires.2)

pub returns : goal.returns
returns c =
    let all = c.of_first-all in
    the_rest c.args.first c.args.year all.result c.args.start c.requires.0 c.requires.1 all.ensures c.requires.2
