use Rattle.planets.proofs.Cases.{period_chosen}
use Rattle.planets.proofs.synodic.period_of.Goals as goal

pub returns : goal.returns
returns c =
    rw (c.choose-2.ensures, c.choose-inner.ensures, c.choose-outer.ensures, c.choose.ensures)
    (period_chosen c.args.planet c.requires)
