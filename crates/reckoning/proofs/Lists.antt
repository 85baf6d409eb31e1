-- Lists that are filled in order, place by place.
-- Assumes nothing.
use mathlib.Core.Path.{◌≡◌, refl, sym, ◌∙◌, ap}
use mathlib.Core.List.{List, [], ◌∷◌, ◌++◌, map, append-nil, append_assoc}
use Prim.Native.Nat.{ℕ, zero, suc, ◌+◌, ◌≤◌, ◌<◌}
use native.Mathlib.Omega.{arith}
use native.Mathlib.Nat.{add-zero, zero-add}
use native.Mathlib.Numerals.{add-one}
use lib.ListN.{length, get_or, drop, set, length-append, length-drop, drop_of_length-le}
use lib.Seq.{drop-cons, set_at}
use Rattle.reckoning.specs.Search.{list_from}
use Rattle.reckoning.proofs.Searches.{list_at}

-- what stands in a list of which the first i places are filled, the rest as they were at first
unfoldable pub filled_to : {A : Type 0} → (ℕ → A) → List A → ℕ → List A
filled_to f l i = list_from f 0 i ++ drop i l

module _ {A : Type 0} (f : ℕ → A) where
  from_length : (p n : ℕ) → length (list_from f p n) ≡ n
  unfolding list_from
  from_length p zero = refl
  from_length p (suc n) = ap suc (from_length (suc p) n)

  from_more : (p n : ℕ) → list_from f p (suc n) ≡ list_from f p n ++ (f (p + n) ∷ [])
  unfolding list_from
  from_more p zero = rw (add-zero p) refl
  from_more p (suc n) = let e : suc p + n ≡ p + suc n = omega arith in ap (λ (l : List A). f p ∷ l) (from_more (suc p) n ∙ rw e refl)

  pub none_filled : (l : List A) → filled_to f l 0 ≡ l
  unfolding filled_to list_from
  none_filled l = refl

  pub filled_length : (l : List A) (i : ℕ) → i ≤ length l → length (filled_to f l i) ≡ length l
  unfolding filled_to
  filled_length l i h = omega (arith, length-append (list_from f 0 i) (drop i l), from_length 0 i, length-drop i l, h)

  pub all_filled : (l : List A) (n : ℕ) → length l ≡ n → filled_to f l n ≡ list_from f 0 n
  unfolding filled_to
  all_filled l n e = rw (drop_of_length-le l {i = n} (omega (arith, e))) (append-nil (list_from f 0 n))

  pub one_more : (l : List A) (i : ℕ) → i < length l → set (filled_to f l i) i (f i) ≡ filled_to f l (i + 1)
  unfolding filled_to
  one_more l i h =
      ap (λ (x : List A). set (list_from f 0 i ++ x) i (f i)) (drop-cons l i (f i) h)
      ∙ set_at (list_from f 0 i) _ (drop (suc i) l) (f i) i (from_length 0 i)
      ∙ sym (append_assoc (list_from f 0 i) (f i ∷ []) (drop (suc i) l))
      ∙ rw (add-one i, from_more 0 i, zero-add i) refl

-- what stands at a place of a list that is made place by place
pub at_place : {A : Type 0} (f : ℕ → A) (d : A) (n p : ℕ) → p < n → get_or (list_from f 0 n) p d ≡ f p
at_place f d n p h = list_at f d n 0 p h ∙ ap f (zero-add p)

-- a list of what a function makes of each, made place by place
pub map_from : {A B : Type 0} (g : A → B) (f : ℕ → A) (p n : ℕ) → list_from (λ i. g (f i)) p n ≡ map g (list_from f p n)
unfolding list_from
map_from g f p zero = refl
map_from g f p (suc n) = ap (λ (l : List _). g (f p) ∷ l) (map_from g f (suc p) n)
