use mathlib.Core.Path.{refl}
use Rattle.mean_calendar.specs.Points.{point_of}
use Rattle.mean_calendar.proofs.cuts.point_of.Goals as goal

pub returns : goal.returns
unfolding point_of
returns c = rw c.over_degree-share.ensures refl
