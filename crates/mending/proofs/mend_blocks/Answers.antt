use native.Mathlib.Omega.{arith}
use mathlib.Core.Path.{◌≡◌, ap, ◌∙◌}
use Prim.Native.Nat.{ℕ, ◌+◌, ◌-◌, ◌*◌}
use lib.ListN.{length, take, drop}
use Rattle.blocks.specs.Bytes.{same}
use Rattle.volumes.specs.Volume.{block_at}
use Rattle.volumes.proofs.Runs.{is_run_lem, part_length}
use Rattle.mending.proofs.Notes.{differing_few, at_start, bytes_long, list_long, on, at_end}
use Rattle.mending.proofs.mend_blocks.Goals as goal

pub loop-i-init : goal.loop-i-init
loop-i-init c = let x = c.args in at_start x.volume.now x.list.now x.first

pub mend_block-right-requires : goal.mend_block-right-requires
mend_block-right-requires c =
    let long : (let x = c.args in (length c.loop-i.volume ≡ length x.volume.now) × (length c.loop-i.list ≡ length x.list.now)) = let x = c.args in
    let l = c.loop-i in (
      bytes_long x.volume.now x.list.now x.first l.i l.count l.volume l.list l.invariant (omega (arith, c.requires, l.auto.i-end)),
      list_long x.volume.now x.list.now x.first l.i l.count l.volume l.list l.invariant (omega (arith, c.requires, l.auto.i-end)),
    ) in
    let i = c.loop-i.i in
    let first = c.args.first in (
      part_length c.loop-i.volume (512 * i) (512 * i + 512 - 512 * i) (omega arith) (omega (arith, long, c.requires.0, c.loop-i-test.true)),
      is_run_lem first (first + i) (record { least = c.requires.2; order = omega arith; most = omega (arith, c.requires.3, c.loop-i-test.true) }),
    )

pub note-count-requires : goal.note-count-requires
note-count-requires c =
    let long : (let x = c.args in (length c.loop-i.volume ≡ length x.volume.now) × (length c.loop-i.list ≡ length x.list.now)) = let x = c.args in
    let l = c.loop-i in (
      bytes_long x.volume.now x.list.now x.first l.i l.count l.volume l.list l.invariant (omega (arith, c.requires, l.auto.i-end)),
      list_long x.volume.now x.list.now x.first l.i l.count l.volume l.list l.invariant (omega (arith, c.requires, l.auto.i-end)),
    ) in
    let x = c.args in
    omega (arith, long, c.loop-i.invariant.count_is, differing_few x.volume.now x.first c.loop-i.i, c.requires.1, c.loop-i-test.true)

pub loop-i-preserved : goal.loop-i-preserved
loop-i-preserved c =
    let x = c.args in
    let l = c.loop-i in
    let m = c.mend_block-right in
    let p = c.note-count in
    let i = l.i in
    let k : x.first + i - x.first ≡ i = omega arith in
    on x.volume.now x.list.now x.first i l.count l.volume l.list l.invariant (512 * i + 512 - 512 * i) m.result m.new.part p.result p.new.list
    (omega arith) (omega (arith, c.requires.1, c.loop-i-test.true))
    (m.ensures.0 ∙ ap (λ (j : ℕ). same (take (512 * i + 512 - 512 * i) (drop (512 * i) l.volume)) (block_at x.first j)) k)
    (m.ensures.1 ∙ ap (block_at x.first) k) p.ensures.0 p.ensures.1

pub returns : goal.returns
returns c =
    let l = c.loop-i in
    let x = c.args in
    let all : l.i ≡ x.n = omega arith in
    at_end x.volume.now x.list.now x.first x.n l.count l.volume l.list (rw all at l.invariant) c.requires.0
