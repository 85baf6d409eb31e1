-- The sum is that of the rates so far.
use Rattle.std.proofs.Common.{◌≡◌, ◌+◌, ◌<◌, ℤ, arith, refl, length-take, get_or-take}
use Rattle.anomaly.specs.Rates.{sum_of}
use Rattle.anomaly.proofs.Whole.{fits, back}
use Rattle.anomaly.proofs.Sums.{sum_small, sum_bits, sum_back}
use Rattle.anomaly.proofs.amounts.sum_of.Goals as goal

pub loop-rate-init : goal.loop-rate-init
unfolding sum_of
loop-rate-init c = refl

pub overflow_add-sum : goal.overflow_add-sum
overflow_add-sum c =
    let r = c.args.rates in
    let i = c.loop-rate.rate-index in
    let h : i < c.args.k = omega (arith, length-take {A = ℤ}) in
    let more = rw (sum_back r c.requires.0 i (omega arith)) at (sum_bits r c.requires.0 i (omega arith)) in
    rw (c.loop-rate.invariant, get_or-take, more) (fits _ (omega (arith, sum_small r c.requires.0 (i + 1))))

pub loop-rate-preserved : goal.loop-rate-preserved
loop-rate-preserved c =
    let r = c.args.rates in
    let i = c.loop-rate.rate-index in
    let h : i < c.args.k = omega (arith, length-take {A = ℤ}) in
    let more = rw (sum_back r c.requires.0 i (omega arith)) at (sum_bits r c.requires.0 i (omega arith)) in
    rw (c.loop-rate.invariant, get_or-take, more) (back _ (omega (arith, sum_small r c.requires.0 (i + 1))))

pub returns : goal.returns
returns c = let e : c.loop-rate.rate-index ≡ c.args.k = omega (arith, length-take {A = ℤ}) in rw e at c.loop-rate.invariant
