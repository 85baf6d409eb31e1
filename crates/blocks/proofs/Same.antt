-- The test whether two lists hold the same bytes.
-- Assumes nothing.
use mathlib.Core.Path.{◌≡◌, refl, sym, ◌∙◌}
use mathlib.Core.Bool.{Bool, true, false, ◌&&◌}
use mathlib.Core.List.{List, [], ◌∷◌, ◌++◌}
use Prim.Native.Nat.{ℕ, ◌+◌, ◌<◌}
use native.Mathlib.Numerals.{add-one}
use native.Mathlib.Omega.{arith}
use lib.Dec.{T, eqb, eqb→eq}
use borrow.Author.Tests.{eq-eqb}
use lib.ListN.{length, take, get_or}
use lib.Seq.{take-suc, length-take-le}
use Rattle.reckoning.proofs.Searches.{both_left, both_right}
use Rattle.blocks.specs.Bytes.{same}

and_assoc : (a b c : Bool) → (a && b) && c ≡ a && (b && c)
and_assoc true b c = refl
and_assoc false b c = refl

and_true : (b : Bool) → b && true ≡ b
and_true true = refl
and_true false = refl

-- one text after another
pub same_append : (xs ys us vs : List ℕ) → length xs ≡ length ys → same (xs ++ us) (ys ++ vs) ≡ same xs ys && same us vs
unfolding same
same_append [] [] us vs h = refl
same_append [] (y ∷ ys) us vs h = absurd (omega arith)
same_append (x ∷ xs) [] us vs h = absurd (omega arith)
same_append (x ∷ xs) (y ∷ ys) us vs h = rw (same_append xs ys us vs (omega arith)) (sym (and_assoc (eqb x y) (same xs ys) (same us vs)))

-- one byte more
pub same_more : (a b : List ℕ) (i : ℕ) → i < length a → i < length b → same (take (i + 1) a) (take (i + 1) b) ≡ same (take i a) (take i b) && eqb (get_or a i 0) (get_or b i 0)
unfolding same
same_more a b i h k =
    rw (add-one i, take-suc a i 0 h, take-suc b i 0 k)
    (same_append (take i a) (take i b) (get_or a i 0 ∷ []) (get_or b i 0 ∷ []) (length-take-le i a (omega arith) ∙ sym (length-take-le i b (omega arith)))
    ∙ rw (and_true (eqb (get_or a i 0) (get_or b i 0))))

-- lists that hold the same bytes are one
pub same_eq : (xs ys : List ℕ) → T (same xs ys) → xs ≡ ys
unfolding same
same_eq [] [] t = refl
same_eq [] (y ∷ ys) t = absurd t
same_eq (x ∷ xs) [] t = absurd t
same_eq (x ∷ xs) (y ∷ ys) t =
    let h : x ≡ y = eqb→eq x y (both_left (eqb x y) (same xs ys) t) in
    let r : xs ≡ ys = same_eq xs ys (both_right (eqb x y) (same xs ys) t) in
    cc

pub same_refl : (xs : List ℕ) → T (same xs xs)
unfolding same
same_refl [] = tt
same_refl (x ∷ xs) = rw (eq-eqb x x refl) (same_refl xs)
