use native.Mathlib.Omega.{arith}
use Prim.Native.Nat.{◌+◌, ◌-◌}
use mathlib.Core.Path.{◌≡◌, sym, ◌∙◌}
use mathlib.Core.Bool.{true}
use Rattle.volumes.specs.Volume.{is_run}
use Rattle.volumes.proofs.Runs.{run_of}
use Rattle.mending.proofs.is_first.Goals as goal

-- the years are a run of the round's
run : (a : goal.Then-is_run) → (let x = a.args in is_run x.first (x.first + x.n - 1) ≡ true)
run a = sym a.is_run.ensures ∙ a.if-is_run.true

pub all_imply-requires : goal.all_imply-requires
all_imply-requires c =
    let x = c.args in
    let r = run_of x.first (x.first + x.n - 1) (rw (run (c)) tt) in
    (c.requires.0, r.least, omega (arith, r.most))
