use Rattle.planets.proofs.Cases.{halved_from}
use Rattle.planets.proofs.synodic.planet_of.Goals as goal

pub returns : goal.returns
returns c = rw (c.period_of.ensures, halved_from c.args.planet c.requires)
