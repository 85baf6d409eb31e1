use Rattle.std.proofs.Common.{◌*◌, Bool, ◌&&◌, length, ap, ◌∙◌, refl, add-one, arith}
use Rattle.std.proofs.lemmas.List.{length_push}
use Rattle.reckoning.specs.Search as search-specs
use Rattle.volumes.proofs.Chunks.{none_given}
use Rattle.volumes.proofs.Runs.{part_length}
use Rattle.mending.specs.FirstYear.{implies_at}
use Rattle.mending.proofs.FirstYears.{turned}
use Rattle.mending.proofs.Chunks.{none_counted, next_counted, all_counted}
use Rattle.mending.proofs.all_imply.Goals as goal

pub loop-i-init : goal.loop-i-init
loop-i-init c =
    let v = c.args.volume.now in
    let s = c.into_iter-i-iterator.result in
    (none_counted v c.args.n s (cc) (cc) (none_given v s.b (cc) (cc)), refl)

pub implies-imply-requires : goal.implies-imply-requires
implies-imply-requires c =
    let now = next_counted c.args.volume.now c.args.n (length c.loop-i.yielded) c.loop-i.i-iterator c.loop-i.invariant.0 c.next.result c.next.new.self c.next.ensures.steps c.in-Some.i c.in-Some.part c.in-Some.is in (
      ap length now.2 ∙ part_length c.args.volume.now (512 * length c.loop-i.yielded) 512 refl (omega (arith, now.1, c.requires.0)),
      c.requires.1,
      omega (arith, now.0, now.1, c.requires.2),
    )

pub loop-i-preserved : goal.loop-i-preserved
unfolding implies_at
loop-i-preserved c =
    let x = c.args in
    let k = length c.loop-i.yielded in
    let now = next_counted x.volume.now x.n k c.loop-i.i-iterator c.loop-i.invariant.0 c.next.result c.next.new.self c.next.ensures.steps c.in-Some.i c.in-Some.part c.in-Some.is in
    let here = rw (now.0, now.2) at c.implies-imply.ensures in
    let all = search-specs.all (implies_at x.volume.now x.first) k in
    rw (length_push c.loop-i.yielded (c.in-Some.i, c.in-Some.part)) (
      now.3,
      rw (add-one k)
          (ap (λ (b : Bool). b && c.implies-imply.result) c.loop-i.invariant.1 ∙ ap (λ (b : Bool). all && b) here ∙ turned all (implies_at x.volume.now x.first k)),
    )

pub returns : goal.returns
returns c =
    let x = c.args in
    let all = all_counted x.volume.now x.n (length c.loop-i.yielded) c.loop-i.i-iterator c.loop-i.invariant.0 c.next.result c.next.new.self c.next.ensures.steps c.in-None.is c.requires.0 in
    rw (← all) c.loop-i.invariant.1
