use Rattle.std.proofs.Common.{arith}
use Rattle.volumes.proofs.Runs.{is_run_lem}
use Rattle.volume_writer.proofs.write_blocks.Goals as goal

pub block-requires : goal.block-requires
block-requires g c =
    is_run_lem c.args.first c.loop-year.year
    (record {
      least = c.requires.0;
      order = omega arith;
      most = omega (arith, c.requires.1);
    })
