-- Writing one text after another.
-- Assumes nothing.
use mathlib.Core.Path.{◌≡◌, refl, sym, ap, ◌∙◌}
use mathlib.Core.List.{List, [], ◌∷◌, ◌++◌, append_assoc, append-nil}
use Prim.Native.Nat.{ℕ, ◌+◌, ◌-◌, ◌*◌, ◌≤◌, ◌<◌}
use native.Mathlib.Nat.{add-zero, zero-add}
use native.Mathlib.Numerals.{add-one}
use native.Mathlib.Omega.{arith}
use borrow.Rule.Slice.PartMut.{put_mid}
use lib.ListN.{length, take, drop, get_or, set, length-append, length-set, length-take, length-drop, take-append-drop}
use lib.Seq.{take-suc-set, take-suc, take_all, drop-set-lt, drop-drop}
use Rattle.std.proofs.lemmas.Slice.{take-put_mid, drop-put_mid}
use Rattle.writing.specs.Written.{Wrote, after_text, texts}

-- what stands after a text is also what stood after the one before it
rest_then : (a b c : List ℕ) (m e : ℕ) → m ≤ e → drop m b ≡ drop m a → drop e c ≡ drop e b → drop e c ≡ drop e a
rest_then a b c m e h p q =
    let k : m + (e - m) ≡ e = omega arith in
    q ∙ rw (← k) (sym (drop-drop (e - m) m b) ∙ ap (λ (l : List ℕ). drop (e - m) l) p ∙ drop-drop (e - m) m a)

-- one byte
pub wrote_byte : (l : List ℕ) (at b : ℕ) → at < length l → Wrote l (set l at b) at (at + 1) (b ∷ [])
wrote_byte l at b h =
    record { long = length-set l at b; next = refl; front = rw (add-one at) (take-suc-set l at b h); rest = drop-set-lt (at + 1) l at b (omega arith) }

-- nothing
pub wrote_none : (l : List ℕ) (at : ℕ) → Wrote l l at at []
wrote_none l at = record { long = refl; next = sym (add-zero at); front = sym (append-nil (take at l)); rest = refl }

-- one text after another
pub and_then : {a b c : List ℕ} {at m e : ℕ} {x y : List ℕ} → Wrote a b at m x → Wrote b c m e y → Wrote a c at e (x ++ y)
and_then {a} {b} {c} {at} {m} {e} {x} {y} p q =
    record {
      long = q.long ∙ p.long;
      next = omega (arith, p.next, q.next, length-append x y);
      front = q.front ∙ ap (λ (l : List ℕ). l ++ y) p.front ∙ append_assoc (take at a) x y;
      rest = rest_then a b c m e (omega (arith, q.next)) p.rest q.rest;
    }

-- the same, the place after it written otherwise
pub wrote_to : {a b : List ℕ} {at e f : ℕ} {x : List ℕ} → e ≡ f → Wrote a b at e x → Wrote a b at f x
wrote_to {a} {b} {at} {e} {f} {x} q w = record { long = w.long; next = sym q ∙ w.next; front = rw (← q) w.front; rest = rw (← q) w.rest }

-- a text over a part of the buffer that is as long
pub wrote_part : (l text new : List ℕ) (at k : ℕ) → new ≡ text → k ≡ length text → at + length text ≤ length l → Wrote l (put_mid at k l new) at (at + length text) text
wrote_part l text new at k e n room =
    let same : length new ≡ length text = ap length e in
    record {
      long = simp (length-append, length-take, length-drop) (omega (arith, same));
      next = refl;
      front = take-put_mid at k l new (at + length text) (omega (arith, same)) (omega arith) ∙ ap (λ (x : List ℕ). take at l ++ x) e;
      rest = drop-put_mid at k l new (at + length text) (omega arith) (omega arith) (omega (arith, same));
    }

-- a text at the front of the buffer
pub from_front : {a b : List ℕ} {e : ℕ} {x : List ℕ} → Wrote a b 0 e x → (e ≡ length x) × (b ≡ after_text x a)
from_front {a} {b} {e} {x} w =
    let n : e ≡ length x = w.next ∙ zero-add (length x) in
    (n, sym (take-append-drop e b) ∙ rw (w.front, w.rest, n))

-- one text after another, where the places between them are written two ways
pub and_at : {a b c : List ℕ} {at m n e : ℕ} {x y : List ℕ} → Wrote a b at m x → Wrote b c n e y → m ≡ n → Wrote a c at e (x ++ y)
and_at p q h = and_then (wrote_to h p) q

-- one byte more
pub byte_more : {a b : List ℕ} {at m : ℕ} {x : List ℕ} (e : ℕ) → m < length a → m + 1 ≡ e → (v : ℕ) → Wrote a b at m x → Wrote a (set b m v) at e (x ++ v ∷ [])
byte_more {a} {b} {at} {m} e h q v w = wrote_to q (and_then w (wrote_byte b m v (omega (arith, w.long))))

-- what was written over the whole of a list is the list
pub wrote_all : {a b : List ℕ} {e : ℕ} {x : List ℕ} → length a ≤ e → Wrote a b 0 e x → b ≡ x
wrote_all {a} {b} {e} {x} h w = sym (take_all e b (omega (arith, w.long))) ∙ w.front

-- the texts of a list's things
module _ {A : Type 0} (f : A → List ℕ) where
  -- one more at the end
  texts_end : (xs : List A) (x : A) → texts f (xs ++ x ∷ []) ≡ texts f xs ++ f x
  unfolding texts
  texts_end [] x = append-nil (f x)
  texts_end (y ∷ xs) x = ap (λ (l : List ℕ). f y ++ l) (texts_end xs x) ∙ sym (append_assoc (f y) (texts f xs) (f x))

  pub texts_more : (xs : List A) (i : ℕ) (d : A) → i < length xs → texts f (take (i + 1) xs) ≡ texts f (take i xs) ++ f (get_or xs i d)
  texts_more xs i d h = rw (add-one i, take-suc xs i d h) (texts_end (take i xs) (get_or xs i d))

  -- how long they are, where none is longer than k
  pub texts_length : (k : ℕ) → ((x : A) → length (f x) ≤ k) → (xs : List A) → length (texts f xs) ≤ k * length xs
  unfolding texts
  texts_length k short [] = omega arith
  texts_length k short (x ∷ xs) = omega (arith, length-append (f x) (texts f xs), short x, texts_length k short xs)
