use Rattle.std.proofs.Common.{length, refl}
use Rattle.std.proofs.lemmas.List.{length_push}
use Rattle.std.proofs.lemmas.Slice.Zip.{zip_turn}
use Rattle.blocks.specs.Bytes.{same}
use Rattle.blocks.proofs.Same.{same_more}
use Rattle.blocks.proofs.bytes.same_bytes.Goals as goal

pub loop-x-init : goal.loop-x-init
unfolding same
loop-x-init c = refl

pub loop-x-preserved : goal.loop-x-preserved
loop-x-preserved c =
    let a = c.args.a.now in
    let b = c.args.b.now in
    let n = length c.loop-x.yielded in
    let t = zip_turn a b c.loop-x.yielded c.into_iter-x-iterator.result c.loop-x.x-iterator c.next.new.self _ (cc) (cc) c.loop-x.yielded_by (c.in-Some.x, c.in-Some.y) c.in-Some.is c.next.ensures.steps in
    rw (length_push c.loop-x.yielded (c.in-Some.x, c.in-Some.y), same_more a b n t.0 t.1, t.2 0, t.3 0, ← c.loop-x.invariant)
