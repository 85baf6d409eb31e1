-- Walking and direct working are one thing, as a program's answers say it: demand 3 over any lawful calendar of a round, every row
-- and every list of counts.
-- Assumes nothing.
use Rattle.std.specs.Prelude.{Ok, Err}
use Rattle.refusal.specs.declared.Refusal.{Refusal}
use Rattle.std.proofs.Common.{◌≡◌, ℕ, Bool, true, false, ◌↔◌, List, ℤ, refl, arith}
use Rattle.walking.specs.Walk.{Calendar, genuine, Genuine, carry, walked, walk_answer}
use Rattle.walking.proofs.Walks.{Lawful, genuine_row, row_genuine, four}
use Rattle.walking.proofs.Theorem as over_any
use Rattle.walking.proofs.Theorem.{Walking}

-- DEMAND 3: of every genuine row and every list all of that, the walk being answered with its end; and refusal 4 for every row that is not genuine, and
-- for no genuine row, by a carry and by a walk over any list
pub record Demand {R : Type 0} (C : Calendar R) : Type 0 where
  pub walking : (r : R) → Genuine C r → (cs : List ℤ) → Walking C r cs
  pub answer : (r : R) → Genuine C r → (cs : List ℤ) → walk_answer C r cs ≡ Ok (walked C r cs)
  pub forged : (r : R) (c : ℤ) → (carry C r c ≡ Err Refusal.Row) ↔ (Genuine C r → ⊥)
  pub forged_walk : (r : R) (cs : List ℤ) → (walk_answer C r cs ≡ Err Refusal.Row) ↔ (Genuine C r → ⊥)

module _ {R : Type 0} (C : Calendar R) (L : Lawful C) where
  -- the test that the code makes is that a row is genuine
  pub tested : (r : R) → Genuine C r → genuine C r ≡ true
  tested r g = rw g.is_row (row_genuine C L (C.month r) g.in_round_lem)

  pub passes : (r : R) → genuine C r ≡ true → Genuine C r
  passes r g = let p = genuine_row C L r g in record { in_round_lem = p.0; is_row = p.1 }

  fails : (r : R) → (Genuine C r → ⊥) → genuine C r ≡ false
  fails r h = go (genuine C r) refl
    where
      go : (b : Bool) → genuine C r ≡ b → genuine C r ≡ false
      go true e = absurd (h (passes r e))
      go false e = e

  not_genuine : (r : R) → genuine C r ≡ false → Genuine C r → ⊥
  not_genuine r f g = let bad : ◌≡◌ {A = ℕ} 0 1 = cc (tested r g) in omega arith

  turned_away : (r : R) (cs : List ℤ) (b : Bool) → genuine C r ≡ b → walk_answer C r cs ≡ Err Refusal.Row → genuine C r ≡ false
  turned_away r cs true e w = let bad : ◌≡◌ {A = ℕ} 0 1 = cc (rw e at w) in absurd (omega arith)
  turned_away r cs false e w = e

  pub demand : Demand C
  demand =
      record {
        walking = λ r g cs. over_any.demand_3 C L r (tested r g) cs;
        answer = λ r g cs. rw (tested r g);
        forged = λ r c. (λ e. not_genuine r ((four C L r c).0 e), λ h. (four C L r c).1 (fails r h));
        forged_walk = λ r cs. (λ e. not_genuine r (turned_away r cs (genuine C r) refl e), λ h. rw (fails r h));
      }
