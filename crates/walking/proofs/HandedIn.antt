-- Rows handed in as numbers, in any calendar whose rows are written as lists of n numbers: which are genuine.
-- Assumes nothing.
use Rattle.std.proofs.Common.{◌≡◌, ℕ, ◌<◌, Bool, true, false, eqb, ltb, List, length, get_or, sym, refl, ◌∙◌, eqb→eq, ext_get_or, ltb-true}
use Rattle.reckoning.proofs.Searches.{all_at}
use Rattle.walking.specs.Walk.{Calendar}
use Rattle.walking.specs.Fields.{same_fields, named_month, genuine_by}
use Rattle.walking.proofs.Walks.{and_both}

module _ {R : Type 0} (C : Calendar R) (n : ℕ) (fields : R → List ℕ) (f : List ℕ) where
  -- the row of the month that the numbers name
  abbrev own : List ℕ
  own = fields (C.row (named_month f))

  pub in_round_lem : genuine_by C n fields f ≡ true → named_month f < C.size
  in_round_lem g = ltb-true (named_month f) C.size (and_both (ltb (named_month f) C.size) (same_fields n f own) g).0

  pub same_at : genuine_by C n fields f ≡ true → (i : ℕ) → i < n → get_or f i 0 ≡ get_or own i 0
  unfolding same_fields
  same_at g i h =
      let same = (and_both (ltb (named_month f) C.size) (same_fields n f own) g).1 in
      eqb→eq (get_or f i 0) (get_or own i 0) (all_at (λ (j : ℕ). eqb (get_or f j 0) (get_or own j 0)) n (rw same tt) i h)

  -- GENUINE NUMBERS ARE, EVERY ONE OF THEM, THOSE OF THE ROW OF THE MONTH THAT THEY NAME
  pub genuine_is_row : length f ≡ n → length own ≡ n → genuine_by C n fields f ≡ true → (named_month f < C.size) × (f ≡ own)
  genuine_is_row l o g = (in_round_lem g, ext_get_or 0 f own (l ∙ sym o) (λ i h. same_at g i (rw l at h)))

  -- what can't be genuine is told as not genuine
  pub not_genuine : (genuine_by C n fields f ≡ true → ⊥) → genuine_by C n fields f ≡ false
  not_genuine h = go (genuine_by C n fields f) refl
    where
      go : (b : Bool) → genuine_by C n fields f ≡ b → genuine_by C n fields f ≡ false
      go true e = absurd (h e)
      go false e = e
