use native.Mathlib.Omega.{arith}
use Prim.Native.Nat.{◌-◌}
use mathlib.Core.Path.{◌≡◌}
use lib.IntN.{pos}
use lib.ListN.{get_or}
use Rattle.anomaly.specs.Amounts.{sized_of, correction_on}
use Rattle.anomaly.proofs.Sums.{rate_back, amount_small, product_small}
use Rattle.anomaly.proofs.amounts.correction_on.Goals as goal

-- the rate by its sign and size, which the code holds as bits
rate_is : (a : goal.After-struct_known-1) → a.sized_of-rate.result ≡ sized_of (get_or a.args.rates (a.args.day - 1) (pos 0))
rate_is a =
    rw (rate_back a.args.rates a.requires.rates_small (a.args.day - 1)) at a.sized_of-rate.ensures

pub overflow_mul-change : goal.overflow_mul-change
overflow_mul-change c =
    rw (rate_is c) (omega (arith, product_small c.args.rates c.requires.rates_small (c.args.day - 1) c.args.rest c.requires.rest_bound))

pub changed_by-size-requires : goal.changed_by-size-requires
changed_by-size-requires c =
    rw (c.raises_on.ensures, rate_is c.before, c.amount_of-amount.ensures) (
      c.requires.lowers,
      omega (arith, amount_small c.args.rates c.requires.rates_small c.args.day c.requires.upto),
      omega (arith, product_small c.args.rates c.requires.rates_small (c.args.day - 1) c.args.rest c.requires.rest_bound),
    )

pub returns : goal.returns
unfolding correction_on
returns c = rw (c.changed_by-size.ensures, c.raises_on.ensures, rate_is c.before.before, c.amount_of-amount.ensures)
