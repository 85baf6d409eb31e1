-- Walking and direct working are one thing: demand 3, over any lawful calendar of a round, any genuine row and any list of counts.
-- Assumes nothing.
use Rattle.std.specs.Prelude.{Ok, Err}
use Rattle.refusal.specs.declared.Refusal.{Refusal}
use Rattle.std.proofs.Common.{◌≡◌, ℕ, ◌<◌, Bool, true, false, ◌↔◌, List, [], ◌∷◌, ◌++◌, ℤ, pos, ◌+ℤ◌, neg_ℤ, nat_abs, arith, lt-ltb}
use Rattle.reckoning.specs.Search.{pick}
use Rattle.walking.specs.Walk.{Calendar, in_round, genuine, carry, walk, along, total, number}
use Rattle.walking.specs.Paper.{final_month, answered_steps, paper}
use Rattle.walking.proofs.Walks as walks
use Rattle.walking.proofs.Walks.{Lawful, Inside, Kept, kept, genuine_row, row_genuine, nought, refused_outside, back}

-- what holds of a walk from the row r over the counts cs
pub record Walking {R : Type 0} (C : Calendar R) (r : R) (cs : List ℤ) : Type 0 where
  -- its answers, number and row in every field, are those of 01's walk, which keeps only the month
  pub answers : along C r cs ≡ paper C (C.month r) cs
  -- the walk ends at the row worked out from the origin for the month in which 01's walk ends
  pub in_round_lem : final_month C.size (C.month r) cs < C.size
  pub row : walk C r cs ≡ C.row (final_month C.size (C.month r) cs)
  -- and that month is the first plus the sum of the answered counts, in whole numbers
  pub sum : pos (final_month C.size (C.month r) cs) ≡ pos (C.month r) +ℤ total C r cs
  -- as many counts are answered as 01's walk answers
  pub counted : number C r cs ≡ answered_steps C.size (C.month r) cs
  -- one carry of the first row by that sum gives the same row
  pub once : carry C r (total C r cs) ≡ Ok (walk C r cs)
  -- the next carry is refused exactly when it would end outside the round, and the walk then stays where it was
  pub refused_when : (c : ℤ) → (carry C (walk C r cs) c ≡ Err Refusal.Carry) ↔ (Inside C.size (pos (final_month C.size (C.month r) cs) +ℤ c) → ⊥)
  pub stays : (c : ℤ) (e : Refusal) → carry C (walk C r cs) c ≡ Err e → (e ≡ Refusal.Carry) × (walk C r (cs ++ c ∷ []) ≡ walk C r cs)
  -- carrying by nought changes nothing, and carrying back undoes carrying on
  pub by_nought : carry C (walk C r cs) (pos 0) ≡ Ok (walk C r cs)
  pub undone : (c : ℤ) (s : R) → carry C (walk C r cs) c ≡ Ok s → carry C s (neg_ℤ c) ≡ Ok (walk C r cs)

-- a refusal of a genuine row is refusal 5
only_five : {R : Type 0} (C : Calendar R) (r : R) (c : ℤ) (e : Refusal) → genuine C r ≡ true → carry C r c ≡ Err e → e ≡ Refusal.Carry
only_five C r c e g h = go (in_round C.size (pos (C.month r) +ℤ c)) (rw g at h)
  where
    go : (b : Bool) → pick b (Ok (C.row (nat_abs (pos (C.month r) +ℤ c)))) (Err Refusal.Carry) ≡ Err e → e ≡ Refusal.Carry
    go true h = let bad : ◌≡◌ {A = ℕ} 0 1 = cc in absurd (omega arith)
    go false h = cc

pub demand_3 : {R : Type 0} (C : Calendar R) → Lawful C → (r : R) → genuine C r ≡ true → (cs : List ℤ) → Walking C r cs
demand_3 C L r g cs =
    let p = genuine_row C L r g in
    let k : Kept C L (C.month r) cs = kept C L cs (C.month r) p.0 in
    let at : walk C r cs ≡ C.row (final_month C.size (C.month r) cs) = rw (← p.1) at k.row in
    let sum : pos (final_month C.size (C.month r) cs) ≡ pos (C.month r) +ℤ total C r cs = rw (← p.1) at k.sum in
    let here : genuine C (walk C r cs) ≡ true = rw at (row_genuine C L (final_month C.size (C.month r) cs) k.to) in
    let month : C.month (walk C r cs) ≡ final_month C.size (C.month r) cs = rw at (L.month_row_lem (final_month C.size (C.month r) cs) k.to) in
    record {
      answers = rw (← p.1) at k.answers;
      in_round_lem = k.to;
      row = at;
      sum = sum;
      counted = rw (← p.1) at k.hits;
      once = rw (g, ← sum, lt-ltb (final_month C.size (C.month r) cs) C.size k.to, at);
      refused_when = λ c.
          let h = refused_outside C L (walk C r cs) here c in
          (λ e i. h.0 e (rw month i), λ out. h.1 (λ i. out (rw month at i)));
      stays = λ c e h. (only_five C (walk C r cs) c e here h, walks.stays C cs c e r h);
      by_nought = nought C L (walk C r cs) here;
      undone = λ c s e. back C L (walk C r cs) here c s e;
    }
