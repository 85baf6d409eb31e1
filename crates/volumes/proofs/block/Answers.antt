use native.Mathlib.Omega.{arith}
use Rattle.volumes.proofs.Runs.{run_of}
use Rattle.volumes.proofs.block.Goals as goal

pub before-requires : goal.before-requires
before-requires c =
    let r = run_of c.args.first c.args.year c.requires in
    (r.least, omega (arith, r.order, r.most))
