use Rattle.volumes.specs.Volume.{is_run}
use Rattle.volumes.proofs.is_run.Goals as goal

pub returns : goal.returns
unfolding is_run
returns c = rw (c.is_year.ensures, c.is_year-2.ensures)
