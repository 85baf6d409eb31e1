use native.Mathlib.Omega.{arith}
use mathlib.Core.Path.{◌≡◌}
use mathlib.Core.Bool.{◌&&◌}
use lib.Dec.{T}
use Rattle.reckoning.proofs.Searches.{both_right}
use Rattle.blocks.specs.Check.{right_check}
use Rattle.reigns.specs.Marked.{from_both}
use Rattle.reigns.proofs.Spans.{Grown, grown}
use Rattle.reigns.proofs.from_both.Goals as goal

-- no later total is below the earlier one
more : (a : goal.After-struct_known-then-right_check-none_below-1) → (Grown a.totals_in-earlier.result a.totals_in-later.result)
more a =
    let taken : T (a.right_check.result && (a.right_check-2.result && a.none_below.result)) = rw a.if-right_check-none_below.true tt in
    grown a.totals_in-earlier.result a.totals_in-later.result
    (rw a.none_below.ensures at (both_right a.right_check-2.result a.none_below.result (both_right a.right_check.result (a.right_check-2.result && a.none_below.result) taken)))

pub overflow_sub-news : goal.overflow_sub-news
overflow_sub-news c = omega (arith, more c)

pub overflow_sub-fulls : goal.overflow_sub-fulls
overflow_sub-fulls c =
    let taken : T (c.right_check.result && (c.right_check-2.result && c.none_below.result)) = rw c.if-right_check-none_below.true tt in
    let below = rw c.none_below.ensures at (both_right c.right_check-2.result c.none_below.result (both_right c.right_check.result (c.right_check-2.result && c.none_below.result) taken)) in
    omega (arith, grown c.totals_in-earlier.result c.totals_in-later.result below)

pub returns-then-right_check-none_below : goal.returns-then-right_check-none_below
unfolding from_both
returns-then-right_check-none_below c =
    let x = c.args in
    let a = c.totals_in-earlier.ensures in
    let z = c.totals_in-later.ensures in
    let before : c.right_check.result ≡ right_check x.before.now = c.right_check.ensures in
    let last : c.right_check-2.result ≡ right_check x.last.now = c.right_check-2.ensures in
    let n = rw (a, z) at c.none_below.ensures in
    rw (a, z, ← before, ← last, ← n, c.if-right_check-none_below.true)

pub returns-else-right_check-none_below : goal.returns-else-right_check-none_below
unfolding from_both
returns-else-right_check-none_below c =
    let x = c.args in
    let a = c.totals_in-earlier.ensures in
    let z = c.totals_in-later.ensures in
    let before : c.right_check.result ≡ right_check x.before.now = c.right_check.ensures in
    let last : c.right_check-2.result ≡ right_check x.last.now = c.right_check-2.ensures in
    let n = rw (a, z) at c.none_below.ensures in
    rw (← before, ← last, ← n, c.if-right_check-none_below.false)
