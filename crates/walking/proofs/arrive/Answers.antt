use Rattle.std.proofs.Common.{◌<◌, arith}
use Rattle.walking.proofs.Program.{final_below}
use Rattle.walking.proofs.arrive.Goals as goal

-- the month in which the walk ends is one of the round
inside : (a : goal.After-walk_months-end) → a.walk_months-end.result.month < a.args.size
inside a = rw a.walk_months-end.ensures (final_below a.args.size a.args.counts.now a.args.from a.requires.0)

pub difference-sum-requires : goal.difference-sum-requires
difference-sum-requires c =
    (omega (arith, inside c, c.requires.0, c.requires.1), omega (arith, inside c, c.requires.0, c.requires.1))
