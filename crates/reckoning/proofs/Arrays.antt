-- What `array::from_fn` makes by a closure that leaves what it captured as it was: at each index what a call there gives.
-- Assumes nothing.
use Rattle.std.proofs.Common.{◌≡◌, ℕ, zero, suc, ◌+◌, ◌≤◌, ◌<◌, List, length, get_or, ⊎_elim, sym, subst, ap, ◌∙◌, arith}
use denote.Param.Members.{Mut}
use Rattle.std.specs.Fn.{Called}
use Rattle.std.specs.Array.{IsFromFnResult, IsFromFnResultFrom}
use Rattle.std.proofs.lemmas.List.{ext_get_or}
use Rattle.reckoning.specs.Search.{list_from}
use Rattle.reckoning.proofs.Searches.{le_or_lt}
use Rattle.reckoning.proofs.Lists.{filled_length, all_filled, at_place}

module _ {F B : Type 0} (g : Mut F (ℕ × Unit {0}) B) (h : ℕ → B) (f : F) (says : (i : ℕ) (y : B) (q : F) → Called g f (i, tt) y q → (y ≡ h i) × (q ≡ f)) (ys : List B) where
  from_place : (n i : ℕ) → IsFromFnResultFrom g f ys i n → (k : ℕ) → i ≤ k → k < i + n → (d : B) → get_or ys k d ≡ h k
  from_place zero i m k a b d = absurd (omega arith)
  from_place (suc n) i m k a b d =
      let s = says i m.1 m.0 m.3 in
      ⊎_elim
      (λ (e : k ≤ i). let q : i ≡ k = omega arith in subst (λ j. get_or ys j d ≡ h j) q (m.2.1 d ∙ s.0))
      (λ (e : i < k). from_place n (i + 1) (subst (λ q. IsFromFnResultFrom g q ys (i + 1) n) s.1 m.4) k (omega arith) (omega arith) d)
      (le_or_lt k i)

  pub made_at : (n : ℕ) → IsFromFnResult g f ys n → (k : ℕ) → k < n → (d : B) → get_or ys k d ≡ h k
  made_at n made k b d = from_place n 0 made.each k (omega arith) (omega arith) d

  pub made_list : (n : ℕ) → IsFromFnResult g f ys n → ys ≡ list_from h 0 n
  made_list n made =
      let long : length (list_from h 0 n) ≡ length ys = ap length (sym (all_filled h ys n made.long)) ∙ filled_length h ys n (omega (arith, made.long)) in
      ext_get_or (h 0) ys (list_from h 0 n) (sym long)
      (λ i b. let k : i < n = omega (arith, made.long) in made_at n made i k (h 0) ∙ sym (at_place h (h 0) n i k))
