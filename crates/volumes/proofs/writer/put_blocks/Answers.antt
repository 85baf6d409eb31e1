use native.Mathlib.Omega.{arith}
use mathlib.Core.Path.{◌≡◌, refl, ap, ◌∙◌}
use Prim.Native.Nat.{◌+◌, ◌-◌, ◌*◌}
use lib.ListN.{length}
use Rattle.volumes.specs.Volume as volume
use Rattle.volumes.proofs.Runs.{is_run_lem, part_length, as_long, one_more}
use Rattle.volumes.proofs.writer.put_blocks.Goals as goal

pub loop-i-init : goal.loop-i-init
unfolding volume.blocks
loop-i-init c = refl

pub put_block-requires : goal.put_block-requires
put_block-requires c =
    let long : length c.loop-i.out ≡ length c.args.out.now = let x = c.args in
    rw c.loop-i.invariant (as_long x.first c.loop-i.i x.out.now (omega (arith, c.requires.3, c.loop-i.auto.i-end, c.loop-i-test.true))) in
    let i = c.loop-i.i in (
      part_length c.loop-i.out (512 * i) (512 * i + 512 - 512 * i) (omega arith) (omega (arith, long, c.requires.3, c.loop-i-test.true)),
      is_run_lem c.args.first (c.args.first + i) (record { least = c.requires.0; order = omega arith; most = omega (arith, c.requires.2, c.loop-i-test.true) }),
      c.before-start.ensures,
    )

pub loop-i-preserved : goal.loop-i-preserved
loop-i-preserved c =
    let i = c.loop-i.i in
    let x = c.args in
    let f = c.put_block in
    let e : x.first + i - x.first ≡ i = omega arith in
    one_more x.first i x.out.now (512 * i + 512 - 512 * i) c.loop-i.out f.new.out (omega arith) c.loop-i.invariant (f.ensures ∙ ap (volume.block_at x.first) e)
