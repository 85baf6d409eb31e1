use native.Mathlib.Omega.{arith}
use mathlib.Core.Path.{◌≡◌, refl, sym, ap, ◌∙◌}
use mathlib.Core.List.{List}
use Prim.Native.Nat.{ℕ, ◌+◌}
use lib.ListN.{length, take, drop, length-drop}
use lib.Seq.{length-take-le, take-add}
use Rattle.blocks.specs.Check.{weighted, right_check}
use Rattle.blocks.proofs.Sums.{sum_append}
use Rattle.blocks.proofs.check.right_check.Goals as goal

-- the two halves of the bytes before the check
front : (xs : List ℕ) → length xs ≡ 512 → length (take 255 xs) ≡ 255
front xs long = length-take-le 255 xs (omega arith)

back : (xs : List ℕ) → length xs ≡ 512 → length (take 255 (drop 255 xs)) ≡ 255
back xs long = length-take-le 255 (drop 255 xs) (omega (arith, length-drop 255 xs))

halves : (xs : List ℕ) → length xs ≡ 512 → weighted 0 (take 510 xs) ≡ weighted 0 (take 255 xs) + weighted 255 (take 255 (drop 255 xs))
halves xs long =
    ap (λ (l : List ℕ). weighted 0 l) (take-add 255 255 xs) ∙ sum_append 0 (take 255 xs) (take 255 (drop 255 xs)) ∙ rw (front xs long) refl

pub slice_bounds-weigh-end : goal.slice_bounds-weigh-end
slice_bounds-weigh-end c = sym (front c.args.block.now (omega arith))

pub returns : goal.returns
unfolding right_check
returns c =
    let x = c.args in
    let front = c.weigh in
    let back = c.weigh-2 in
    let sum : front.result + back.result ≡ weighted 0 (take 510 x.block.now) = omega (arith, halves x.block.now (omega arith), front.ensures.0, back.ensures.0) in
    rw (← sum, c.u16_at.ensures)
