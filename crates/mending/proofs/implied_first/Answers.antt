use Rattle.std.proofs.Common.{◌≡◌, ◌<◌, T, false, length, ⊎_elim, sym, ◌∙◌, arith}
use native.Mathlib.Nat.{eq-or-lt_of_le}
use Rattle.std.proofs.lemmas.List.{length_push}
use Rattle.volumes.proofs.Chunks.{none_given}
use Rattle.mending.specs.FirstYear.{sound_at, implied_at}
use Rattle.mending.proofs.FirstYears.{found, not_found}
use Rattle.mending.proofs.Chunks.{none_counted, next_counted, all_counted}
use Rattle.mending.proofs.implied_first.Goals as goal

pub loop-i-init : goal.loop-i-init
loop-i-init c =
    let v = c.args.volume.now in
    let s = c.into_iter-i-iterator.result in
    (none_counted v c.args.n s (cc) (cc) (none_given v s.b (cc) (cc)), λ q h. absurd (omega arith))

pub returns-then-is_sound : goal.returns-then-is_sound
returns-then-is_sound c =
    let x = c.args in
    let v = x.volume.now in
    let k = length c.loop-i.yielded in
    let now = next_counted v x.n k c.loop-i.i-iterator c.loop-i.invariant.0 c.next.result c.next.new.self c.next.ensures.steps c.in-Some.i c.in-Some.part c.in-Some.is in
    let here : T (sound_at v k) = rw (← (rw now.2 at c.is_sound.ensures), c.if-is_sound.true) tt in
    (rw (now.0, now.2) at c.implied_by.ensures.0 ∙ sym (found (sound_at v) (implied_at v) x.n k now.1 here c.loop-i.invariant.1), c.implied_by.ensures.1)

pub loop-i-preserved : goal.loop-i-preserved
loop-i-preserved c =
    let x = c.args in
    let v = x.volume.now in
    let k = length c.loop-i.yielded in
    let now = next_counted v x.n k c.loop-i.i-iterator c.loop-i.invariant.0 c.next.result c.next.new.self c.next.ensures.steps c.in-Some.i c.in-Some.part c.in-Some.is in
    let no : sound_at v k ≡ false = sym (rw now.2 at c.is_sound.ensures) ∙ c.if-is_sound.false in
    rw (length_push c.loop-i.yielded (c.in-Some.i, c.in-Some.part)) (
      now.3,
      λ q h. ⊎_elim (λ (e : q ≡ k) t. rw (e, no) at t) (λ (g : q < k) t. c.loop-i.invariant.1 q g t) (eq-or-lt_of_le {n = q} {m = k} (omega arith)),
    )

pub returns : goal.returns
returns c =
    let x = c.args in
    let v = x.volume.now in
    let all = all_counted v x.n (length c.loop-i.yielded) c.loop-i.i-iterator c.loop-i.invariant.0 c.next.result c.next.new.self c.next.ensures.steps c.in-None.is c.requires in
    (sym (not_found (sound_at v) (implied_at v) x.n (λ q h. c.loop-i.invariant.1 q (omega (arith, h, all)))), omega arith)
