use Rattle.std.proofs.Common.{◌≡◌}
use Rattle.anomaly.specs.Rates.{sum_of}
use Rattle.anomaly.proofs.amounts.sum_of.Given as goal

-- the sum is that of the rates so far
abbrev pub invariant-loop-rate : goal.invariant-loop-rate
invariant-loop-rate l = l.sum ≡ sum_of l.fn.rates l.rate-index
