use Rattle.anomaly.specs.Corrections.{corrections_of}
use Rattle.anomaly.proofs.corrections_of.Goals as goal

pub returns : goal.returns
unfolding corrections_of
returns c = cc
