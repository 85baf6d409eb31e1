use Rattle.anomaly.specs.Corrections.{moved}
use Rattle.anomaly.proofs.Moves.{later_is, earlier_is}
use Rattle.anomaly.proofs.moved_by.Goals as goal

pub returns-then-correction : goal.returns-then-correction
unfolding moved
returns-then-correction c =
    rw (c.if-correction.true, later_is c.args.day c.args.remainder.parts c.args.correction.size c.requires.remainder c.requires.size, c.carry-carried.ensures)

pub returns : goal.returns
unfolding moved
returns c =
    rw (c.if-correction.false, earlier_is c.args.day c.args.remainder.parts c.args.correction.size c.requires.remainder c.requires.size, c.carry-carried-2.ensures)
