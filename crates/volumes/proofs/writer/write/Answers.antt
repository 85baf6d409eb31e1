use Rattle.std.specs.Prelude.{ℕ}
use Rattle.std.specs.Prelude.{Result, Ok}
use Rattle.refusal.specs.declared.Refusal.{Refusal}
use native.Mathlib.Omega.{arith}
use mathlib.Core.Path.{◌≡◌, sym, ap, ◌∙◌}
use Prim.Native.Nat.{◌+◌, ◌-◌, ◌*◌, ◌/◌}
use lib.ListN.{length}
use Rattle.volumes.specs.Writer.{write_for, write_answer, buffer_after}
use Rattle.volumes.proofs.Answered.{written_of}
use Rattle.volumes.proofs.writer.write.Goals as goal

pub put_blocks-requires : goal.put_blocks-requires
put_blocks-requires c =
    let answer : (let x = c.args in c.answer_for.result ≡ write_answer x.first x.last (length x.out.now)) = c.answer_for.ensures ∙ ap (λ (s : Result ℕ Refusal). write_for s (length c.args.out.now)) c.span.ensures in
    let x = c.args in
    let n = c.in_ok-bytes.bytes in
    let s = written_of x.first x.last (length x.out.now) n (sym answer ∙ c.in_ok-bytes.was) in
    let r = s.run in
    (r.least, omega (arith, s.bytes, r.order), omega (arith, s.bytes, r.order, r.most), omega (arith, s.bytes, s.fits))

pub returns : goal.returns
unfolding buffer_after
returns c =
    let answer : (let x = c.args in c.answer_for.result ≡ write_answer x.first x.last (length x.out.now)) = c.answer_for.ensures ∙ ap (λ (s : Result ℕ Refusal). write_for s (length c.args.out.now)) c.span.ensures in
    let x = c.args in
    let n = c.in_ok-bytes.bytes in
    let a : write_answer x.first x.last (length x.out.now) ≡ Ok n = sym answer ∙ c.in_ok-bytes.was in
    let s = written_of x.first x.last (length x.out.now) n a in
    let years : n / 512 ≡ x.last + 1 - x.first = omega (arith, s.bytes) in
    let all : 512 * (x.last + 1 - x.first) ≡ n = sym s.bytes in
    (sym a, rw a (rw (years, all) at c.put_blocks.ensures))
