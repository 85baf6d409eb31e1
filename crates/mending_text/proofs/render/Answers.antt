use Rattle.std.specs.Prelude.{Ok, Err}
use native.Mathlib.Omega.{arith}
use mathlib.Core.Path.{◌≡◌, refl, sym, ap, ◌∙◌}
use Prim.Native.Nat.{◌≤◌}
use mathlib.Core.List.{[]}
use lib.ListN.{length, take, length-take}
use Rattle.writing.proofs.Writings.{and_then, from_front, texts_length}
use Rattle.year_text.proofs.Lengths.{field_length}
use Rattle.mending.specs.Mended.{damaged, mend_answer, volume_after}
use Rattle.mending.proofs.Answered.{noted}
use Rattle.mending_text.specs.Report.{number_line, lines_for, volume_for}
use Rattle.mending_text.proofs.render.Goals as goal

pub slice_bounds-list-end : goal.slice_bounds-list-end
slice_bounds-list-end c =
    let mended : mend_answer c.args.volume.now ≡ Ok c.in-Ok.n = sym c.mend.ensures.0 ∙ c.in-Ok.is in
    let few : c.in-Ok.n ≤ 1024 = (noted c.args.volume.now [] c.in-Ok.n mended).few in
    let indices : take c.in-Ok.n c.mend.new.list ≡ damaged c.args.volume.now = ap (take c.in-Ok.n) c.mend.ensures.2 ∙ (noted c.args.volume.now _ c.in-Ok.n mended).front in
    let count : length (damaged c.args.volume.now) ≡ c.in-Ok.n = (noted c.args.volume.now [] c.in-Ok.n mended).count in
    omega (arith, few, count, ap length indices, length-take c.in-Ok.n c.mend.new.list)

pub slice_bounds-put_numbers-end-in-Ok : goal.slice_bounds-put_numbers-end-in-Ok
slice_bounds-put_numbers-end-in-Ok c =
    let mended : mend_answer c.args.volume.now ≡ Ok c.in-Ok.n = sym c.mend.ensures.0 ∙ c.in-Ok.is in
    let indices : take c.in-Ok.n c.mend.new.list ≡ damaged c.args.volume.now = ap (take c.in-Ok.n) c.mend.ensures.2 ∙ (noted c.args.volume.now _ c.in-Ok.n mended).front in
    let count : length (damaged c.args.volume.now) ≡ c.in-Ok.n = (noted c.args.volume.now [] c.in-Ok.n mended).count in
    sym (ap length indices ∙ count)

pub put_field-requires : goal.put_field-requires
put_field-requires c =
    let mended : mend_answer c.args.volume.now ≡ Ok c.in-Ok.n = sym c.mend.ensures.0 ∙ c.in-Ok.is in
    let few : c.in-Ok.n ≤ 1024 = (noted c.args.volume.now [] c.in-Ok.n mended).few in
    let indices : take c.in-Ok.n c.mend.new.list ≡ damaged c.args.volume.now = ap (take c.in-Ok.n) c.mend.ensures.2 ∙ (noted c.args.volume.now _ c.in-Ok.n mended).front in
    let count : length (damaged c.args.volume.now) ≡ c.in-Ok.n = (noted c.args.volume.now [] c.in-Ok.n mended).count in
    let v = c.args.volume.now in
    let w = rw indices at c.put_numbers-end.ensures in
    omega (arith, w.long, w.next, c.put_numbers-arg-1.given, texts_length number_line 21 (λ i. field_length i 10) (damaged v), count, few)

pub returns-in-Ok : goal.returns-in-Ok
unfolding lines_for volume_for volume_after
returns-in-Ok c =
    let mended : mend_answer c.args.volume.now ≡ Ok c.in-Ok.n = sym c.mend.ensures.0 ∙ c.in-Ok.is in
    let indices : take c.in-Ok.n c.mend.new.list ≡ damaged c.args.volume.now = ap (take c.in-Ok.n) c.mend.ensures.2 ∙ (noted c.args.volume.now _ c.in-Ok.n mended).front in
    let m = mended in
    let after = c.mend.ensures.1 in
    let w = rw indices at c.put_numbers-end.ensures in
    let t = from_front (and_then w c.put_field.ensures) in
    (rw (t.0, after, m) refl, after, rw m t.1)

pub returns-in-Err : goal.returns-in-Err
unfolding lines_for volume_for
returns-in-Err c =
    let m : mend_answer c.args.volume.now ≡ Err c.in-Err.e = sym c.mend.ensures.0 ∙ c.in-Err.is in
    let t = from_front c.put_refusal.ensures in
    (rw (t.0, m) refl, c.mend.ensures.1, rw m t.1)
