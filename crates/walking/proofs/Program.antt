-- What the code of a calendar's `carry` finds, one lemma for each way through it, and the turns of the loop of `walk_months`.
-- Assumes nothing.
use Rattle.std.specs.Prelude.{Ok, Err, Some, None}
use Rattle.refusal.specs.declared.Refusal.{Refusal}
use Rattle.std.proofs.Common.{◌≡◌, ℕ, ◌+◌, ◌<◌, ◌≤◌, Bool, true, false, ◌&&◌, ltb, List, [], ◌∷◌, length, get_or, drop, ℤ, pos, negsuc, ◌+ℤ◌, nat_abs, sym, refl, ap, ◌∙◌, add-zero, le_antisymm, add-one, arith, drop-cons, ltb-true, le-ltb, lt-ltb}
use lib.Seq.{drop-length}
use Rattle.reckoning.specs.Search.{pick}
use Rattle.walking.specs.Walk.{Calendar, in_round, carry_from}
use Rattle.walking.specs.Fields.{row_on}
use Rattle.walking.specs.Paper.{next, final_month, answered_steps}
use Rattle.walking.specs.Signed.{target_of, landing_of}
use Rattle.walking.proofs.Walks.{and_both}

-- a month is reached only inside the round
reached : (b : Bool) (n k : ℕ) → Some k ≡ pick b (Some n) None → (b ≡ true) × (n ≡ k)
reached true n k e = (refl, cc)
reached false n k e = let bad : ◌≡◌ {A = ℕ} 0 1 = cc in absurd (omega arith)

passed : (b : Bool) (n : ℕ) → None ≡ pick b (Some n) None → b ≡ false
passed true n e = cc
passed false n e = refl

pub inside : (size : ℕ) (z : ℤ) → in_round size z ≡ true → nat_abs z < size
inside size (pos n) e = ltb-true n size e
inside size (negsuc n) e = let bad : ◌≡◌ {A = ℕ} 0 1 = cc in absurd (omega arith)

one_at_most : (b : Bool) → pick b 1 0 ≤ 1
one_at_most true = omega arith
one_at_most false = omega arith

-- where the code's two tests end: whether month m is one of the round, and whether what is handed in for its row is the same as the row
module _ (size m : ℕ) (same : Bool) where
  pub far : size ≤ m → (ltb m size && same) ≡ false
  far h = rw (le-ltb m size h)

  pub near : m < size → (ltb m size && same) ≡ same
  near h = rw (lt-ltb m size h)

  pub in_round_lem : (ltb m size && same) ≡ true → m < size
  in_round_lem e = ltb-true m size (and_both (ltb m size) same e).0

-- where a count leads is where its carry lands, once what is handed in has passed
module _ (size m : ℕ) (c : ℤ) where
  pub landing_month : (k : ℕ) → Some k ≡ target_of size (pos m +ℤ c) → Ok k ≡ landing_of size true m c
  landing_month k e =
      let p = reached (in_round size (pos m +ℤ c)) (nat_abs (pos m +ℤ c)) k e in
      rw (p.0, p.1) refl

  pub landing_outside : None ≡ target_of size (pos m +ℤ c) → Err Refusal.Carry ≡ landing_of size true m c
  landing_outside e = rw (passed (in_round size (pos m +ℤ c)) (nat_abs (pos m +ℤ c)) e) refl

  -- a month that it lands on is one of the round
  pub landed_below : (ok : Bool) (k : ℕ) → Ok k ≡ landing_of size ok m c → k < size
  landed_below true k e = go (in_round size (pos m +ℤ c)) refl e
    where
      go : (b : Bool) → in_round size (pos m +ℤ c) ≡ b → Ok k ≡ pick b (Ok (nat_abs (pos m +ℤ c))) (Err Refusal.Carry) → k < size
      go true t e = let q : k ≡ nat_abs (pos m +ℤ c) = cc in omega (arith, q, inside size (pos m +ℤ c) t)
      go false t e = let bad : ◌≡◌ {A = ℕ} 0 1 = cc in absurd (omega arith)
  landed_below false k e = let bad : ◌≡◌ {A = ℕ} 0 1 = cc in absurd (omega arith)

-- THE ROW OF WHERE IT LANDS IS WHAT THE CARRY ANSWERS
pub landed : {R : Type 0} (C : Calendar R) (ok : Bool) (m : ℕ) (c : ℤ) → row_on C (landing_of C.size ok m c) ≡ carry_from C ok m c
landed C true m c = go (in_round C.size (pos m +ℤ c))
  where
    go : (b : Bool) → row_on C (pick b (Ok (nat_abs (pos m +ℤ c))) (Err Refusal.Carry)) ≡ pick b (Ok (C.row (nat_abs (pos m +ℤ c)))) (Err Refusal.Carry)
    go true = refl
    go false = refl
landed C false m c = refl

-- a walk by months ends in the round
pub final_below : (size : ℕ) (cs : List ℤ) (k : ℕ) → k < size → final_month size k cs < size
unfolding final_month
final_below size [] k h = h
final_below size (c ∷ cs) k h = final_below size cs (next size k c) (go (in_round size (pos k +ℤ c)) refl)
  where
    go : (b : Bool) → in_round size (pos k +ℤ c) ≡ b → pick b (nat_abs (pos k +ℤ c)) k < size
    go true t = inside size (pos k +ℤ c) t
    go false t = h

-- a walk by months so far: it stands at month k, after i counts of cs of which n were answered, and the rest of the walk from there is the
-- whole walk from the month m
pub record SoFar (size m : ℕ) (cs : List ℤ) (k n i : ℕ) : Type 0 where
  pub index : i ≤ length cs
  pub few : n ≤ i
  pub in_round_lem : k < size
  pub months : final_month size k (drop i cs) ≡ final_month size m cs
  pub hits : n + answered_steps size k (drop i cs) ≡ answered_steps size m cs

module _ (size m : ℕ) (cs : List ℤ) where
  pub at_start : m < size → SoFar size m cs m 0 0
  at_start h = record { index = omega arith; few = omega arith; in_round_lem = h; months = refl; hits = omega arith }

  module _ (k n i : ℕ) (s : SoFar size m cs k n i) where
    -- the count of this turn, in whole numbers from the month
    abbrev leads : ℤ
    leads = pos k +ℤ get_or cs i (pos 0)

    rest : i < length cs → drop i cs ≡ get_or cs i (pos 0) ∷ drop (i + 1) cs
    rest h = rw (add-one, drop-cons cs i (pos 0))

    -- one turn more
    on : (b : Bool) → i < length cs → in_round size leads ≡ b → pick b (nat_abs leads) k < size → SoFar size m cs (pick b (nat_abs leads) k) (n + pick b 1 0) (i + 1)
    unfolding final_month answered_steps
    on b h e below =
        let months : final_month size k (get_or cs i (pos 0) ∷ drop (i + 1) cs) ≡ final_month size m cs = rw (rest h) at s.months in
        let hits : n + answered_steps size k (get_or cs i (pos 0) ∷ drop (i + 1) cs) ≡ answered_steps size m cs = rw (rest h) at s.hits in
        record {
          index = omega arith;
          few = omega (arith, s.few, one_at_most b);
          in_round_lem = below;
          months = ap (λ (t : Bool). final_month size (pick t (nat_abs leads) k) (drop (i + 1) cs)) (sym e) ∙ months;
          hits = omega (arith, hits, ap (λ (t : Bool). pick t 1 0 + answered_steps size (pick t (nat_abs leads) k) (drop (i + 1) cs)) e);
        }

    pub on_month : (j : ℕ) → i < length cs → Some j ≡ target_of size leads → SoFar size m cs j (n + 1) (i + 1)
    on_month j h e =
        let p = reached (in_round size leads) (nat_abs leads) j e in
        rw p.1 at (on true h p.0 (inside size leads p.0))

    pub on_outside : i < length cs → None ≡ target_of size leads → SoFar size m cs k n (i + 1)
    on_outside h e = rw add-zero at (on false h (passed (in_round size leads) (nat_abs leads) e) s.in_round_lem)

    pub at_end : length cs ≤ i → (k ≡ final_month size m cs) × (n ≡ answered_steps size m cs)
    unfolding final_month answered_steps
    at_end h =
        let none : drop i cs ≡ [] = ap (λ (j : ℕ). drop j cs) (le_antisymm s.index h) ∙ drop-length cs in
        let hits : n + 0 ≡ answered_steps size m cs = rw none at s.hits in
        (rw none at s.months, omega arith)
