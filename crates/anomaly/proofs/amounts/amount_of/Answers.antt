use native.Mathlib.Omega.{arith}
use Prim.Native.Nat.{◌-◌, ◌≤◌}
use mathlib.Core.Path.{◌≡◌, ap}
use Rattle.anomaly.specs.Rates.{sum_of}
use Rattle.anomaly.specs.Amounts.{sized_of, amount_of}
use Rattle.anomaly.specs.declared.amounts.Amount.{Amount}
use Rattle.anomaly.proofs.Whole.{sized}
use Rattle.anomaly.proofs.Sums.{sum_small, sum_back}
use Rattle.anomaly.proofs.amounts.amount_of.Goals as goal

-- the sum by its sign and size, which the code holds as bits
sum_is : (a : goal.After-struct_known-3-1) → a.sized_of-sum.result ≡ sized_of (sum_of a.args.rates (a.args.day - 1))
sum_is a =
    rw (a.sum_of.ensures, sum_back a.args.rates a.requires.0 (a.args.day - 1) (omega arith)) at a.sized_of-sum.ensures

bound : (a : goal.After-struct_known-3-1) → a.sized_of-sum.result.size ≤ 28000
bound a =
    let z = sum_of a.args.rates (a.args.day - 1) in
    omega (arith, ap (λ (x : Amount). x.size) (sum_is a), sized z, sum_small a.args.rates a.requires.0 (a.args.day - 1))

pub overflow_mul-result : goal.overflow_mul-result
overflow_mul-result c = omega (arith, bound c)

pub overflow_mul-result-2 : goal.overflow_mul-result-2
overflow_mul-result-2 c = omega (arith, bound c)

pub overflow_add-result : goal.overflow_add-result
overflow_add-result c = omega (arith, bound c)

pub returns : goal.returns
unfolding amount_of
returns c = rw (sum_is c)
