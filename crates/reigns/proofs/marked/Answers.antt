use native.Mathlib.Omega.{arith}
use mathlib.Core.Path.{◌≡◌, sym, ◌∙◌}
use mathlib.Core.Bool.{true}
use Prim.Native.Nat.{ℕ, ◌+◌, ◌-◌, ◌*◌, ◌/◌, ◌%◌}
use borrow.Author.Tests.{eq-eqb, ne_eqb}
use lib.ListN.{length, take, drop}
use Rattle.volumes.specs.Reader.{whole_blocks}
use Rattle.volumes.proofs.Answered.{whole}
use Rattle.reigns.specs.Marked.{in_volume, from_both, marked_answer}
use Rattle.reigns.proofs.Spans.{Inside, inside}
use Rattle.reigns.proofs.marked.Goals as goal

record Span (bytes first from to : ℕ) : Type 0 where
  whole : bytes % 512 ≡ 0
  years : Inside first (first + bytes / 512) from to

pub returns-then-not-whole_blocks : goal.returns-then-not-whole_blocks
unfolding marked_answer
returns-then-not-whole_blocks c = rw (← c.whole_blocks.ensures, c.if-not-whole_blocks.true)

pub u32_at-first-requires : goal.u32_at-first-requires
u32_at-first-requires c =
    let blocks : whole_blocks (length c.args.volume.now) ≡ true = sym c.whole_blocks.ensures ∙ c.if-not-whole_blocks.false in
    omega (arith, whole (length c.args.volume.now) (rw blocks tt))

pub returns-then-not-in_volume : goal.returns-then-not-in_volume
unfolding marked_answer
returns-then-not-in_volume c =
    let blocks : whole_blocks (length c.args.volume.now) ≡ true = sym c.whole_blocks.ensures ∙ c.if-not-whole_blocks.false in
    rw (blocks, ← c.u32_at-first.ensures.0, ← c.in_volume.ensures, c.if-not-in_volume.true)

pub overflow_sub-last : goal.overflow_sub-last
overflow_sub-last c =
    let blocks : whole_blocks (length c.args.volume.now) ≡ true = sym c.whole_blocks.ensures ∙ c.if-not-whole_blocks.false in
    let years : (let x = c.args in let first = c.u32_at-first.result in in_volume first (first + length x.volume.now / 512) x.from x.to ≡ true) = sym c.in_volume.ensures ∙ c.if-not-in_volume.false in
    let span : (let x = c.args in Span (length x.volume.now) c.u32_at-first.result x.from x.to) = let x = c.args in
    let first = c.u32_at-first.result in
    record {
      whole = (whole (length x.volume.now) (rw blocks tt)).1;
      years = inside first (first + length x.volume.now / 512) x.from x.to (rw years tt);
    } in
    omega (arith, span)

pub overflow_mul-last : goal.overflow_mul-last
overflow_mul-last c =
    let blocks : whole_blocks (length c.args.volume.now) ≡ true = sym c.whole_blocks.ensures ∙ c.if-not-whole_blocks.false in
    let years : (let x = c.args in let first = c.u32_at-first.result in in_volume first (first + length x.volume.now / 512) x.from x.to ≡ true) = sym c.in_volume.ensures ∙ c.if-not-in_volume.false in
    let span : (let x = c.args in Span (length x.volume.now) c.u32_at-first.result x.from x.to) = let x = c.args in
    let first = c.u32_at-first.result in
    record {
      whole = (whole (length x.volume.now) (rw blocks tt)).1;
      years = inside first (first + length x.volume.now / 512) x.from x.to (rw years tt);
    } in
    omega (arith, span)

pub overflow_add-last_end : goal.overflow_add-last_end
overflow_add-last_end c =
    let blocks : whole_blocks (length c.args.volume.now) ≡ true = sym c.whole_blocks.ensures ∙ c.if-not-whole_blocks.false in
    let years : (let x = c.args in let first = c.u32_at-first.result in in_volume first (first + length x.volume.now / 512) x.from x.to ≡ true) = sym c.in_volume.ensures ∙ c.if-not-in_volume.false in
    let span : (let x = c.args in Span (length x.volume.now) c.u32_at-first.result x.from x.to) = let x = c.args in
    let first = c.u32_at-first.result in
    record {
      whole = (whole (length x.volume.now) (rw blocks tt)).1;
      years = inside first (first + length x.volume.now / 512) x.from x.to (rw years tt);
    } in
    omega (arith, span)

pub slice_bounds-from_last-end : goal.slice_bounds-from_last-end
slice_bounds-from_last-end c =
    let blocks : whole_blocks (length c.args.volume.now) ≡ true = sym c.whole_blocks.ensures ∙ c.if-not-whole_blocks.false in
    let years : (let x = c.args in let first = c.u32_at-first.result in in_volume first (first + length x.volume.now / 512) x.from x.to ≡ true) = sym c.in_volume.ensures ∙ c.if-not-in_volume.false in
    let span : (let x = c.args in Span (length x.volume.now) c.u32_at-first.result x.from x.to) = let x = c.args in
    let first = c.u32_at-first.result in
    record {
      whole = (whole (length x.volume.now) (rw blocks tt)).1;
      years = inside first (first + length x.volume.now / 512) x.from x.to (rw years tt);
    } in
    omega (arith, span)

pub returns-then-from-first : goal.returns-then-from-first
unfolding marked_answer
returns-then-from-first c =
    let blocks : whole_blocks (length c.args.volume.now) ≡ true = sym c.whole_blocks.ensures ∙ c.if-not-whole_blocks.false in
    let years : (let x = c.args in let first = c.u32_at-first.result in in_volume first (first + length x.volume.now / 512) x.from x.to ≡ true) = sym c.in_volume.ensures ∙ c.if-not-in_volume.false in
    let x = c.args in
    let first = c.u32_at-first in
    let at : ℕ = 512 * (x.to - first.result) in
    let one : at + 512 - at ≡ 512 = omega arith in
    rw (blocks, ← first.ensures.0, years, eq-eqb x.from first.result c.if-from-first.true)
    (rw one at c.from_last.ensures)

pub overflow_sub-before : goal.overflow_sub-before
overflow_sub-before c =
    let blocks : whole_blocks (length c.args.volume.now) ≡ true = sym c.whole_blocks.ensures ∙ c.if-not-whole_blocks.false in
    let years : (let x = c.args in let first = c.u32_at-first.result in in_volume first (first + length x.volume.now / 512) x.from x.to ≡ true) = sym c.in_volume.ensures ∙ c.if-not-in_volume.false in
    let span : (let x = c.args in Span (length x.volume.now) c.u32_at-first.result x.from x.to) = let x = c.args in
    let first = c.u32_at-first.result in
    record {
      whole = (whole (length x.volume.now) (rw blocks tt)).1;
      years = inside first (first + length x.volume.now / 512) x.from x.to (rw years tt);
    } in
    omega (arith, span)

pub overflow_sub-before-2 : goal.overflow_sub-before-2
overflow_sub-before-2 c =
    let blocks : whole_blocks (length c.args.volume.now) ≡ true = sym c.whole_blocks.ensures ∙ c.if-not-whole_blocks.false in
    let years : (let x = c.args in let first = c.u32_at-first.result in in_volume first (first + length x.volume.now / 512) x.from x.to ≡ true) = sym c.in_volume.ensures ∙ c.if-not-in_volume.false in
    let span : (let x = c.args in Span (length x.volume.now) c.u32_at-first.result x.from x.to) = let x = c.args in
    let first = c.u32_at-first.result in
    record {
      whole = (whole (length x.volume.now) (rw blocks tt)).1;
      years = inside first (first + length x.volume.now / 512) x.from x.to (rw years tt);
    } in
    omega (arith, span)

pub overflow_mul-before : goal.overflow_mul-before
overflow_mul-before c =
    let blocks : whole_blocks (length c.args.volume.now) ≡ true = sym c.whole_blocks.ensures ∙ c.if-not-whole_blocks.false in
    let years : (let x = c.args in let first = c.u32_at-first.result in in_volume first (first + length x.volume.now / 512) x.from x.to ≡ true) = sym c.in_volume.ensures ∙ c.if-not-in_volume.false in
    let span : (let x = c.args in Span (length x.volume.now) c.u32_at-first.result x.from x.to) = let x = c.args in
    let first = c.u32_at-first.result in
    record {
      whole = (whole (length x.volume.now) (rw blocks tt)).1;
      years = inside first (first + length x.volume.now / 512) x.from x.to (rw years tt);
    } in
    omega (arith, span)

pub overflow_add-before_end : goal.overflow_add-before_end
overflow_add-before_end c =
    let blocks : whole_blocks (length c.args.volume.now) ≡ true = sym c.whole_blocks.ensures ∙ c.if-not-whole_blocks.false in
    let years : (let x = c.args in let first = c.u32_at-first.result in in_volume first (first + length x.volume.now / 512) x.from x.to ≡ true) = sym c.in_volume.ensures ∙ c.if-not-in_volume.false in
    let span : (let x = c.args in Span (length x.volume.now) c.u32_at-first.result x.from x.to) = let x = c.args in
    let first = c.u32_at-first.result in
    record {
      whole = (whole (length x.volume.now) (rw blocks tt)).1;
      years = inside first (first + length x.volume.now / 512) x.from x.to (rw years tt);
    } in
    omega (arith, span)

pub slice_bounds-from_both-end : goal.slice_bounds-from_both-end
slice_bounds-from_both-end c =
    let blocks : whole_blocks (length c.args.volume.now) ≡ true = sym c.whole_blocks.ensures ∙ c.if-not-whole_blocks.false in
    let years : (let x = c.args in let first = c.u32_at-first.result in in_volume first (first + length x.volume.now / 512) x.from x.to ≡ true) = sym c.in_volume.ensures ∙ c.if-not-in_volume.false in
    let span : (let x = c.args in Span (length x.volume.now) c.u32_at-first.result x.from x.to) = let x = c.args in
    let first = c.u32_at-first.result in
    record {
      whole = (whole (length x.volume.now) (rw blocks tt)).1;
      years = inside first (first + length x.volume.now / 512) x.from x.to (rw years tt);
    } in
    omega (arith, span)

pub slice_bounds-from_both-end-2 : goal.slice_bounds-from_both-end-2
slice_bounds-from_both-end-2 c =
    let blocks : whole_blocks (length c.args.volume.now) ≡ true = sym c.whole_blocks.ensures ∙ c.if-not-whole_blocks.false in
    let years : (let x = c.args in let first = c.u32_at-first.result in in_volume first (first + length x.volume.now / 512) x.from x.to ≡ true) = sym c.in_volume.ensures ∙ c.if-not-in_volume.false in
    let span : (let x = c.args in Span (length x.volume.now) c.u32_at-first.result x.from x.to) = let x = c.args in
    let first = c.u32_at-first.result in
    record {
      whole = (whole (length x.volume.now) (rw blocks tt)).1;
      years = inside first (first + length x.volume.now / 512) x.from x.to (rw years tt);
    } in
    omega (arith, span)

pub returns : goal.returns
unfolding marked_answer
returns c =
    let blocks : whole_blocks (length c.args.volume.now) ≡ true = sym c.whole_blocks.ensures ∙ c.if-not-whole_blocks.false in
    let years : (let x = c.args in let first = c.u32_at-first.result in in_volume first (first + length x.volume.now / 512) x.from x.to ≡ true) = sym c.in_volume.ensures ∙ c.if-not-in_volume.false in
    let x = c.args in
    let first = c.u32_at-first in
    let bytes = x.volume.now in
    let at : ℕ = 512 * (x.to - first.result) in
    let earlier : ℕ = 512 * (x.from - 1 - first.result) in
    let told : c.from_both.result ≡ from_both (take (earlier + 512 - earlier) (drop earlier bytes)) (take (at + 512 - at) (drop at bytes)) = c.from_both.ensures in
    let one : at + 512 - at ≡ 512 = omega arith in
    let other : earlier + 512 - earlier ≡ 512 = omega arith in
    rw (blocks, ← first.ensures.0, years, ne_eqb x.from first.result c.if-from-first.false)
    (rw (other, one) at told)
