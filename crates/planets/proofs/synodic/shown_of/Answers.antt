use Rattle.planets.specs.Answers.{shown}
use Rattle.planets.proofs.synodic.shown_of.Goals as goal

pub returns : goal.returns
unfolding shown
returns c = rw (c.carry-time.ensures, c.carry-since.ensures)
