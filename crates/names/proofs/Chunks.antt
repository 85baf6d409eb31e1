-- Lists cut in chunks of one length, and chunks of one length joined.
-- Assumes nothing.
use mathlib.Core.Path.{◌≡◌, sym, ◌∙◌, ap}
use mathlib.Core.List.{List, ◌++◌, flatten}
use Prim.Native.Nat.{ℕ, zero, suc, ◌+◌, ◌*◌, ◌<◌}
use native.Mathlib.Nat.{add-zero, add_comm, mul-suc, mul-zero}
use native.Mathlib.Omega.{arith}
use lib.ListN.{length, take, drop, take-append-drop}
use lib.Seq.{drop-length, drop-drop, take_at, drop_at}
use Rattle.reckoning.specs.Search.{list_from}

-- chunk k, from 0, of a list that is cut in chunks of w
abbrev pub chunk : ℕ → List ℕ → ℕ → List ℕ
chunk w l k = take w (drop (w * k) l)

-- the chunks of a list, joined, are the list: n chunks from chunk p on are what is left after the first p
pub joined : (w : ℕ) (l : List ℕ) (n p : ℕ) → length l ≡ w * (p + n) → flatten (list_from (chunk w l) p n) ≡ drop (w * p) l
unfolding list_from flatten
joined w l zero p h = let e : w * p ≡ length l = ap (λ (m : ℕ). w * m) (sym (add-zero p)) ∙ sym h in rw e (sym (drop-length l))
joined w l (suc n) p h =
    let e : p + suc n ≡ suc p + n = omega arith in
    ap (λ (rest : List ℕ). chunk w l p ++ rest) (joined w l n (suc p) (h ∙ ap (λ (m : ℕ). w * m) e) ∙ ap (λ (m : ℕ). drop m l) (mul-suc w p) ∙ sym (drop-drop w (w * p) l))
    ∙ take-append-drop w (drop (w * p) l)

-- and chunk k of joined lists of w is the k-th of them
pub chunk_of_joined : (w : ℕ) (f : ℕ → List ℕ) → ((k : ℕ) → length (f k) ≡ w) → (n p k : ℕ) → k < n → chunk w (flatten (list_from f p n)) k ≡ f (p + k)
unfolding list_from flatten
chunk_of_joined w f long zero p k h = absurd (omega arith)
chunk_of_joined w f long (suc n) p zero h = let e : p ≡ p + 0 = omega arith in rw (mul-zero w) (take_at (f p) (flatten (list_from f (suc p) n)) w (long p) ∙ ap f e)
chunk_of_joined w f long (suc n) p (suc k) h =
    let e : suc p + k ≡ p + suc k = omega arith in
    let rest : List ℕ = flatten (list_from f (suc p) n) in
    ap (take w)
    (ap (λ (m : ℕ). drop m (f p ++ rest)) (mul-suc w k ∙ add_comm (w * k) w)
    ∙ sym (drop-drop (w * k) w (f p ++ rest))
    ∙ ap (drop (w * k)) (drop_at (f p) rest w (long p)))
    ∙ chunk_of_joined w f long n (suc p) k (omega arith)
    ∙ ap f e
