use Rattle.std.proofs.Common.{length, sym, ◌∙◌, add-one}
use Rattle.std.proofs.lemmas.List.{length_push}
use Rattle.volumes.specs.Stream.{reader_after}
use Rattle.volumes.proofs.Chunks.{none_given, next_given, all_given}
use Rattle.volumes.proofs.Genuine.{reads_on, reads_all}
use Rattle.volumes.proofs.reader.read.Goals as goal

pub loop-part-init : goal.loop-part-init
unfolding reader_after
loop-part-init c = (none_given c.args.volume.now c.into_iter-part-iterator.result (cc) (cc), c.new-reader.ensures)

pub loop-part-preserved : goal.loop-part-preserved
loop-part-preserved c =
    let v = c.args.volume.now in
    let n = length c.loop-part.yielded in
    let part = c.in-Some.part in
    let now = next_given v n c.loop-part.part-iterator c.loop-part.invariant.0 c.next.result c.next.new.self c.next.ensures.steps part c.in-Some.is in
    rw (length_push c.loop-part.yielded part) (now.1, c.block-reader.ensures ∙ rw (c.loop-part.invariant.1, now.0, add-one n) (reads_on v n))

pub returns : goal.returns
returns c =
    let v = c.args.volume.now in
    let all = all_given v (length c.loop-part.yielded) c.loop-part.part-iterator c.loop-part.invariant.0 c.next.result c.next.new.self c.next.ensures.steps c.in-None.is in
    c.finish.ensures ∙ rw (c.loop-part.invariant.1, all) (sym (reads_all v))
