-- The indices that are noted: just those of the blocks that differ, ascending and each once.
-- Assumes nothing.
use mathlib.Core.Path.{◌≡◌, refl, sym, ◌∙◌}
use mathlib.Core.Logic.{⊎_elim}
use mathlib.Core.Bool.{Bool, true, false}
use mathlib.Core.List.{List, [], ◌∷◌, ◌++◌, append-nil}
use Prim.Native.Nat.{ℕ, zero, suc, ◌+◌, ◌<◌}
use native.Mathlib.Nat.{eq-or-lt_of_le, add-zero}
use native.Mathlib.Omega.{arith}
use lib.Dec.{T}
use lib.ListN.{length, get_or, length-append, get_or-append}
use lib.Seq.{get_or-append-add}
use Rattle.reckoning.specs.Search.{pick}
use Rattle.mending.specs.Mended.{called_for, differing}

-- a list of numbers: those below k at which a test fails, ascending
pub record Lists (f : ℕ → Bool) (k : ℕ) (list : List ℕ) : Type 0 where
  -- each of them is one
  pub only : (j : ℕ) → j < length list → (get_or list j 0 < k) × ¬ (T (f (get_or list j 0)))
  -- each one is among them
  pub every : (i : ℕ) → i < k → ¬ (T (f i)) → (j : ℕ) × (j < length list) × (get_or list j 0 ≡ i)
  -- and they ascend, so that none is there twice
  pub ascend : (i j : ℕ) → i < j → j < length list → get_or list i 0 < get_or list j 0

-- one number more, at which the test passes or fails
module _ (f : ℕ → Bool) (k : ℕ) (list : List ℕ) (p : Lists f k list) where
  passed : T (f k) → Lists f (suc k) list
  passed t =
      record {
        only = λ j h. let o = p.only j h in (omega (arith, o.0), o.1);
        every =
            λ i h n.
            ⊎_elim
            (λ (e : i ≡ k). absurd (n (rw e t)))
            (λ (l : i < k). p.every i l n)
            (eq-or-lt_of_le {n = i} {m = k} (omega arith));
        ascend = p.ascend;
      }

  long : length (list ++ k ∷ []) ≡ length list + 1
  long = length-append list (k ∷ [])

  before : (j : ℕ) → j < length list → get_or (list ++ k ∷ []) j 0 ≡ get_or list j 0
  before j h = get_or-append list (k ∷ []) 0 j h

  last : (j : ℕ) → j ≡ length list → get_or (list ++ k ∷ []) j 0 ≡ k
  last j e = rw (e ∙ sym (add-zero (length list))) (get_or-append-add list (k ∷ []) 0 0)

  failed : ¬ (T (f k)) → Lists f (suc k) (list ++ k ∷ [])
  failed n =
      record {
        only =
            λ j h.
            ⊎_elim
            (λ (e : j ≡ length list). rw (last j e) (omega arith, n))
            (λ (l : j < length list). let o = p.only j l in rw (before j l) (omega (arith, o.0), o.1))
            (eq-or-lt_of_le {n = j} {m = length list} (omega (arith, long)));
        every =
            λ i h m.
            ⊎_elim
            (λ (e : i ≡ k). (length list, omega (arith, long), last (length list) refl ∙ sym e))
            (λ (l : i < k). let w = p.every i l m in (w.0, omega (arith, long, w.1), before w.0 w.1 ∙ w.2))
            (eq-or-lt_of_le {n = i} {m = k} (omega arith));
        ascend =
            λ i j h g.
            ⊎_elim
            (λ (e : j ≡ length list). rw (last j e, before i (omega arith)) (p.only i (omega arith)).0)
            (λ (l : j < length list). rw (before j l, before i (omega arith)) (p.ascend i j h l))
            (eq-or-lt_of_le {n = j} {m = length list} (omega (arith, long)));
      }

-- THE INDICES ARE THOSE OF THE BLOCKS THAT DIFFER from what their year and the first year call for, and of no other, ascending and each once
pub lists : (bytes : List ℕ) (first k : ℕ) → Lists (called_for bytes first) k (differing bytes first k)
unfolding differing
lists bytes first zero = record { only = λ j h. absurd (omega arith); every = λ i h n. absurd (omega arith); ascend = λ i j h g. absurd (omega arith) }
lists bytes first (suc k) = go (called_for bytes first k) refl (lists bytes first k)
  where
    list : List ℕ
    list = differing bytes first k

    go : (t : Bool) → called_for bytes first k ≡ t → Lists (called_for bytes first) k list → Lists (called_for bytes first) (suc k) (list ++ pick t [] (k ∷ []))
    go true e p = rw (append-nil list) (passed (called_for bytes first) k list p (rw e tt))
    go false e p = failed (called_for bytes first) k list p (λ t. rw e at t)

-- the same numbers by another test that fails where this one does
pub listed_by : (f g : ℕ → Bool) (k : ℕ) (list : List ℕ) → ((i : ℕ) → i < k → f i ≡ g i) → Lists f k list → Lists g k list
listed_by f g k list same p =
    record {
      only = λ j h. let o = p.only j h in (o.0, rw (← (same (get_or list j 0) o.0)) o.1);
      every = λ i h n. p.every i h (rw (same i h) n);
      ascend = p.ascend;
    }
