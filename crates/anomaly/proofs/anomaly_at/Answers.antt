use native.Mathlib.Nat.{zero-add}
use Rattle.anomaly.specs.Corrections.{anomaly_at}
use Rattle.anomaly.proofs.anomaly_at.Goals as goal

pub returns : goal.returns
unfolding anomaly_at
returns c = rw (c.carry-carried.ensures, zero-add)
