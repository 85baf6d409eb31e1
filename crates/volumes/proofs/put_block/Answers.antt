use mathlib.Core.Path.{◌∙◌}
use Rattle.std.proofs.Common.{rules}
use Rattle.refusal.proofs.Values.{unwrapped}
use Rattle.calendar.specs.Answers.{zero_head}
use lib.Dec.{T}
use Rattle.units.specs.Xinghe.{is_year}
use Rattle.calendar.proofs.Round.{year_headed}
use Rattle.volumes.specs.Volume.{Run}
use Rattle.volumes.proofs.Runs.{run_of, year_in_lem, block_of_lem}
use native.Mathlib.Omega.{arith}
use Rattle.volumes.proofs.put_block.Goals as goal

-- the years are a run of the round's
run : (s : goal.After-unwrap_or_default) → Run s.args.first s.args.year
run s = run_of s.args.first s.args.year s.requires.1

in_round_lem : (s : goal.After-unwrap_or_default) → T (is_year s.args.year)
in_round_lem s = let r = run s in year_in_lem s.args.year (omega (arith, r.least, r.order)) r.most

pub since-totals-requires : goal.since-totals-requires
since-totals-requires c =
    let r = run c in
    (r.least, r.order, c.requires.2, rw (unwrapped c.year_head-head.result zero_head _ (λ y p. search rules) c.unwrap_or_default.ensures, c.year_head-head.ensures) (year_headed c.args.year (in_round_lem c)))

pub returns : goal.returns
returns c =
    c.fill_block.ensures ∙ rw c.since-totals.ensures (block_of_lem c.args.first c.args.year (run_of c.args.first c.args.year c.requires.1).order)
