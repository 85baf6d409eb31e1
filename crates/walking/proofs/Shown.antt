-- Demand 3 whatever the types of a program's answers: where an answer that is shown loses nothing, and no walk's end is shown as its refusal.
-- Assumes nothing.
use Rattle.std.specs.Prelude.{Result, Ok, Err}
use Rattle.std.proofs.Common.{◌≡◌, ◌<◌, Bool, true, false, ◌↔◌, List, [], ◌∷◌, ◌++◌, map, ℤ, pos, ◌+ℤ◌, neg_ℤ, refl, ap}
use Rattle.reckoning.specs.Search.{pick}
use Rattle.refusal.specs.declared.Refusal.{Refusal}
use Rattle.walking.specs.Walk.{Calendar, genuine, Genuine, carry, walk, along, total, number}
use Rattle.walking.specs.Paper.{final_month, answered_steps, paper}
use Rattle.walking.proofs.Walks.{Lawful, Inside}
use Rattle.walking.proofs.Theorem.{Walking}
use Rattle.walking.proofs.Demand.{demand, tested, passes}

-- what holds of a walk from the row r over the counts cs, where a carry's answer is shown as a program returns it; the fields are those of `Walking`
pub record ShownWalking {R A : Type 0} (C : Calendar R) (shown : Result R Refusal → A) (r : R) (cs : List ℤ) : Type 0 where
  pub answers : map shown (along C r cs) ≡ map shown (paper C (C.month r) cs)
  pub in_round_lem : final_month C.size (C.month r) cs < C.size
  pub row : walk C r cs ≡ C.row (final_month C.size (C.month r) cs)
  pub sum : pos (final_month C.size (C.month r) cs) ≡ pos (C.month r) +ℤ total C r cs
  pub counted : number C r cs ≡ answered_steps C.size (C.month r) cs
  pub once : shown (carry C r (total C r cs)) ≡ shown (Ok (walk C r cs))
  pub refused_when : (c : ℤ) → (shown (carry C (walk C r cs) c) ≡ shown (Err Refusal.Carry)) ↔ (Inside C.size (pos (final_month C.size (C.month r) cs) +ℤ c) → ⊥)
  pub stays : (c : ℤ) (e : Refusal) → shown (carry C (walk C r cs) c) ≡ shown (Err e) → (e ≡ Refusal.Carry) × (walk C r (cs ++ c ∷ []) ≡ walk C r cs)
  pub by_nought : shown (carry C (walk C r cs) (pos 0)) ≡ shown (Ok (walk C r cs))
  pub undone : (c : ℤ) (s : R) → shown (carry C (walk C r cs) c) ≡ shown (Ok s) → shown (carry C s (neg_ℤ c)) ≡ shown (Ok (walk C r cs))

-- DEMAND 3, where a walk is answered by `end`, or by `turned` from a row that is not genuine; the fields are those of `Demand`
pub record ShownDemand {R A W : Type 0} (C : Calendar R) (shown : Result R Refusal → A) (end : R → List ℤ → W) (turned : W) : Type 0 where
  pub walking : (r : R) → Genuine C r → (cs : List ℤ) → ShownWalking C shown r cs
  pub answer : (r : R) → Genuine C r → (cs : List ℤ) → pick (genuine C r) (end r cs) turned ≡ end r cs
  pub forged : (r : R) (c : ℤ) → (shown (carry C r c) ≡ shown (Err Refusal.Row)) ↔ (Genuine C r → ⊥)
  pub forged_walk : (r : R) (cs : List ℤ) → (pick (genuine C r) (end r cs) turned ≡ turned) ↔ (Genuine C r → ⊥)

module _ {R A : Type 0} (C : Calendar R) (L : Lawful C) (shown : Result R Refusal → A) (lossless : (a b : Result R Refusal) → shown a ≡ shown b → a ≡ b) where
  walk_of : (r : R) → Genuine C r → (cs : List ℤ) → ShownWalking C shown r cs
  walk_of r g cs =
      let w : Walking C r cs = (demand C L).walking r g cs in
      let here : R = walk C r cs in
      record {
        answers = ap (map shown) w.answers;
        in_round_lem = w.in_round_lem;
        row = w.row;
        sum = w.sum;
        counted = w.counted;
        once = ap shown w.once;
        refused_when = λ c. (λ e. (w.refused_when c).0 (lossless (carry C here c) (Err Refusal.Carry) e), λ out. ap shown ((w.refused_when c).1 out));
        stays = λ c e h. w.stays c e (lossless (carry C here c) (Err e) h);
        by_nought = ap shown w.by_nought;
        undone = λ c s e. ap shown (w.undone c s (lossless (carry C here c) (Ok s) e));
      }

  module _ {W : Type 0} (end : R → List ℤ → W) (turned : W) (apart : (r : R) (cs : List ℤ) → end r cs ≡ turned → ⊥) where
    kept_out : (r : R) (cs : List ℤ) → pick (genuine C r) (end r cs) turned ≡ turned → Genuine C r → ⊥
    kept_out r cs w g = apart r cs (rw (tested C L r g) at w)

    let_in : (r : R) (cs : List ℤ) (b : Bool) → genuine C r ≡ b → (Genuine C r → ⊥) → pick (genuine C r) (end r cs) turned ≡ turned
    let_in r cs true e h = absurd (h (passes C L r e))
    let_in r cs false e h = rw e

    pub shown_demand : ShownDemand C shown end turned
    shown_demand =
        record {
          walking = walk_of;
          answer = λ r g cs. rw (tested C L r g);
          forged = λ r c. (λ e. ((demand C L).forged r c).0 (lossless (carry C r c) (Err Refusal.Row) e), λ h. ap shown (((demand C L).forged r c).1 h));
          forged_walk = λ r cs. (kept_out r cs, let_in r cs (genuine C r) refl);
        }
