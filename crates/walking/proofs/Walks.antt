-- What holds of carries and walks, of any calendar of a round that keeps three laws.
-- Assumes nothing.
use Rattle.std.specs.Prelude.{Result, Ok, Err}
use Rattle.refusal.specs.declared.Refusal.{Refusal}
use Rattle.std.proofs.Common.{◌≡◌, ℕ, ◌+◌, ◌<◌, Bool, true, false, ◌&&◌, ltb, ◌⊎◌, ◌↔◌, List, [], ◌∷◌, ◌++◌, ℤ, pos, negsuc, ◌+ℤ◌, neg_ℤ, nat_abs, ◌≤ℤ◌, ◌<ℤ◌, sym, refl, ap, ◌∙◌, inl, inr, ⊎_elim, zero-le, arith, le→leb, ltb→lt, lt→ltb, ltb-true, lt-ltb}
use lib.IntN.{+ℤ_idl, +ℤ_idr, +ℤ_assoc, +ℤ-neg_ℤ_cancel}
use Rattle.reckoning.specs.Search.{pick}
use Rattle.walking.specs.Walk.{Calendar, in_round, genuine, landing, carry, stand, walk, along, total, number}
use Rattle.walking.specs.Paper.{next, final_month, answered_steps, paper}

-- z is a month's number: 0 ≤ z < size, in whole numbers
abbrev pub Inside : ℕ → ℤ → Type 0
Inside size z = (pos 0 ≤ℤ z) × (z <ℤ pos size)

clash {ℓ} : {X : Type ℓ} → false ≡ true → X
clash e = let bad : ◌≡◌ {A = ℕ} 0 1 = cc in absurd (omega arith)

inside_true : (size : ℕ) (z : ℤ) → in_round size z ≡ true → Inside size z
inside_true size (pos n) e = (record { le = le→leb 0 n zero-le }, record { lt = lt→ltb n size (ltb-true n size e) })
inside_true size (negsuc n) e = clash e

true_inside : (size : ℕ) (z : ℤ) → Inside size z → in_round size z ≡ true
true_inside size (pos n) h = lt-ltb n size (ltb→lt n size h.1.lt)
true_inside size (negsuc n) h = absurd h.0.le

-- a month of the round by its own number
month_of_lem : (size : ℕ) (z : ℤ) → in_round size z ≡ true → (nat_abs z < size) × (pos (nat_abs z) ≡ z)
month_of_lem size (pos n) e = (ltb-true n size e, refl)
month_of_lem size (negsuc n) e = clash e

pub and_both : (a b : Bool) → (a && b) ≡ true → (a ≡ true) × (b ≡ true)
and_both true b e = (refl, e)
and_both false b e = clash e

-- the laws asked of a calendar: a month's row names the month, and two rows are the same exactly where they are equal
pub record Lawful {R : Type 0} (C : Calendar R) : Type 0 where
  pub month_row_lem : (m : ℕ) → m < C.size → C.month (C.row m) ≡ m
  pub same_refl : (r : R) → C.same r r ≡ true
  pub same_eq : (r s : R) → C.same r s ≡ true → r ≡ s

module _ {R : Type 0} (C : Calendar R) where
  -- a carry from month m reaches month n, or ends outside
  record Moved (m : ℕ) (c : ℤ) : Type 0 where
    pub to : next C.size m c < C.size
    pub sum : pos (next C.size m c) ≡ pos m +ℤ c
    pub gives : carry C (C.row m) c ≡ Ok (C.row (next C.size m c))
    pub test : in_round C.size (pos m +ℤ c) ≡ true

  record Stopped (m : ℕ) (c : ℤ) : Type 0 where
    pub outside : Inside C.size (pos m +ℤ c) → ⊥
    pub stay : next C.size m c ≡ m
    pub gives : carry C (C.row m) c ≡ Err Refusal.Carry
    pub test : in_round C.size (pos m +ℤ c) ≡ false

  -- a walk over two lists is a walk over the first and then one over the second; a refused carry leaves it where it stood
  walk_append : (ps bs : List ℤ) (r : R) → walk C r (ps ++ bs) ≡ walk C (walk C r ps) bs
  unfolding walk
  walk_append [] bs r = refl
  walk_append (p ∷ ps) bs r = walk_append ps bs (stand r (carry C r p))

  pub stays : (ps : List ℤ) (c : ℤ) (e : Refusal) (r : R) → carry C (walk C r ps) c ≡ Err e → walk C r (ps ++ c ∷ []) ≡ walk C r ps
  unfolding walk
  stays ps c e r h = walk_append ps (c ∷ []) r ∙ rw h

  module _ (L : Lawful C) where
    -- a genuine row is the row of its month, and the other way round
    pub genuine_row : (r : R) → genuine C r ≡ true → (C.month r < C.size) × (r ≡ C.row (C.month r))
    genuine_row r g =
        let h = and_both (ltb (C.month r) C.size) (C.same r (C.row (C.month r))) g in
        (ltb-true (C.month r) C.size h.0, L.same_eq r (C.row (C.month r)) h.1)

    pub row_genuine : (m : ℕ) → m < C.size → genuine C (C.row m) ≡ true
    row_genuine m h = rw (L.month_row_lem m h, lt-ltb m C.size h) (L.same_refl (C.row m))

    carry_row : (m : ℕ) → m < C.size → (c : ℤ) → carry C (C.row m) c ≡ landing C (pos m +ℤ c)
    carry_row m h c = rw (row_genuine m h, L.month_row_lem m h)

    landing_at : (n : ℕ) → n < C.size → landing C (pos n) ≡ Ok (C.row n)
    landing_at n h = rw (lt-ltb n C.size h)

    -- each carry from a month of the round
    step : (m : ℕ) → m < C.size → (c : ℤ) → Moved m c ⊎ Stopped m c
    step m h c = go (in_round C.size (pos m +ℤ c)) refl
      where
        go : (b : Bool) → in_round C.size (pos m +ℤ c) ≡ b → Moved m c ⊎ Stopped m c
        go true e =
            let k = month_of_lem C.size (pos m +ℤ c) e in
            inl (record { to = rw e k.0; sum = rw e k.1; gives = carry_row m h c ∙ rw e; test = e })
        go false e =
            inr (record {
              outside = λ i. clash (sym e ∙ true_inside C.size (pos m +ℤ c) i);
              stay = rw e;
              gives = carry_row m h c ∙ rw e;
              test = e;
            })

    -- REFUSAL 4 is given for every row that is not genuine, and for no genuine row
    pub four : (r : R) (c : ℤ) → (carry C r c ≡ Err Refusal.Row) ↔ (genuine C r ≡ false)
    four r c = (λ e. go (genuine C r) (in_round C.size (pos (C.month r) +ℤ c)) (C.row (nat_abs (pos (C.month r) +ℤ c))) e, λ e. rw e)
      where
        go : (b d : Bool) (s : R) → pick b (pick d (Ok s) (Err Refusal.Carry)) (Err Refusal.Row) ≡ Err Refusal.Row → b ≡ false
        go true true s e = let bad : ◌≡◌ {A = ℕ} 0 1 = cc in absurd (omega arith)
        go true false s e = let bad : ◌≡◌ {A = ℕ} 0 1 = cc in absurd (omega arith)
        go false d s e = refl

    -- a walk from the row of a month, as 01's walk keeps the month alone
    pub record Kept (m : ℕ) (cs : List ℤ) : Type 0 where
      pub to : final_month C.size m cs < C.size
      pub row : walk C (C.row m) cs ≡ C.row (final_month C.size m cs)
      pub answers : along C (C.row m) cs ≡ paper C m cs
      pub sum : pos (final_month C.size m cs) ≡ pos m +ℤ total C (C.row m) cs
      pub hits : number C (C.row m) cs ≡ answered_steps C.size m cs

    pub kept : (cs : List ℤ) (m : ℕ) → m < C.size → Kept m cs
    unfolding walk along total number final_month answered_steps paper
    kept [] m h = record { to = h; row = refl; answers = refl; sum = sym (+ℤ_idr (pos m)); hits = refl }
    kept (c ∷ cs) m h = ⊎_elim (moved (kept cs)) (stopped (kept cs m h)) (step m h c)
      where
        -- the first answer is where the count leads, and the rest are those from there
        each_answer : (n : ℕ) (a : Result R Refusal) → carry C (C.row m) c ≡ a → along C (stand (C.row m) a) cs ≡ paper C n cs →
            carry C (C.row m) c ∷ along C (stand (C.row m) (carry C (C.row m) c)) cs ≡ landing C (pos m +ℤ c) ∷ paper C n cs
        each_answer n a g e =
            ap (λ (x : Result R Refusal). x ∷ along C (stand (C.row m) x) cs) g
            ∙ ap (λ (l : List (Result R Refusal)). a ∷ l) e
            ∙ ap (λ (x : Result R Refusal). x ∷ paper C n cs) (sym g ∙ carry_row m h c)

        -- a count is counted where it is answered
        counts : {a b : Bool} → a ≡ b → pick a 1 0 + answered_steps C.size (next C.size m c) cs ≡ pick b 1 0 + answered_steps C.size (next C.size m c) cs
        counts e = ap (λ (t : Bool). pick t 1 0 + answered_steps C.size (next C.size m c) cs) e

        moved : ((k : ℕ) → k < C.size → Kept k cs) → Moved m c → Kept m (c ∷ cs)
        moved each s =
            let t = each (next C.size m c) s.to in
            record {
              to = t.to;
              row = rw s.gives t.row;
              answers = each_answer (next C.size m c) (Ok (C.row (next C.size m c))) s.gives t.answers;
              sum = rw s.gives (t.sum ∙ rw s.sum (+ℤ_assoc (pos m) c (total C (C.row (next C.size m c)) cs)));
              hits = rw s.gives (ap (λ (n : ℕ). 1 + n) t.hits ∙ counts (sym s.test));
            }

        stopped : Kept m cs → Stopped m c → Kept m (c ∷ cs)
        stopped t s =
            record {
              to = rw s.stay t.to;
              row = rw (s.gives, s.stay) t.row;
              answers = each_answer (next C.size m c) (Err Refusal.Carry) s.gives (rw s.stay t.answers);
              sum = rw (s.gives, s.stay) (t.sum ∙ ap (λ z. pos m +ℤ z) (sym (+ℤ_idl (total C (C.row m) cs))));
              hits = rw s.gives (ap (λ (n : ℕ). 0 + n) (t.hits ∙ rw s.stay) ∙ counts (sym s.test));
            }

    -- each carry of a genuine row
    module _ (r : R) (g : genuine C r ≡ true) where
      from : C.month r < C.size
      from = (genuine_row r g).0

      is_row : r ≡ C.row (C.month r)
      is_row = (genuine_row r g).1

      carries : (c : ℤ) → carry C r c ≡ landing C (pos (C.month r) +ℤ c)
      carries c = rw g

      pub nought : carry C r (pos 0) ≡ Ok r
      nought = carries (pos 0) ∙ ap (landing C) (+ℤ_idr (pos (C.month r))) ∙ landing_at (C.month r) from ∙ ap Ok (sym is_row)

      pub refused_outside : (c : ℤ) → (carry C r c ≡ Err Refusal.Carry) ↔ (Inside C.size (pos (C.month r) +ℤ c) → ⊥)
      refused_outside c = ⊎_elim moved stopped (step (C.month r) from c)
        where
          Says : Type 0
          Says = (carry C r c ≡ Err Refusal.Carry) ↔ (Inside C.size (pos (C.month r) +ℤ c) → ⊥)

          same : carry C r c ≡ carry C (C.row (C.month r)) c
          same = ap (λ s. carry C s c) is_row

          moved : Moved (C.month r) c → Says
          moved s = (
            λ e. let bad : ◌≡◌ {A = ℕ} 0 1 = cc (sym (same ∙ s.gives) ∙ e) in absurd (omega arith),
            λ out. absurd (out (rw (← s.sum) (inside_true C.size (pos (next C.size (C.month r) c)) (lt-ltb (next C.size (C.month r) c) C.size s.to)))),
          )

          stopped : Stopped (C.month r) c → Says
          stopped s = (λ e. s.outside, λ out. same ∙ s.gives)

      pub back : (c : ℤ) (s : R) → carry C r c ≡ Ok s → carry C s (neg_ℤ c) ≡ Ok r
      back c s e = ⊎_elim moved stopped (step (C.month r) from c)
        where
          here : carry C (C.row (C.month r)) c ≡ Ok s
          here = rw is_row at e

          moved : Moved (C.month r) c → carry C s (neg_ℤ c) ≡ Ok r
          moved t =
              let n : ℕ = next C.size (C.month r) c in
              let q : s ≡ C.row n = cc (here, t.gives) in
              ap (λ x. carry C x (neg_ℤ c)) q
              ∙ carry_row n t.to (neg_ℤ c)
              ∙ ap (λ z. landing C (z +ℤ neg_ℤ c)) t.sum
              ∙ ap (landing C) (+ℤ-neg_ℤ_cancel (pos (C.month r)) c)
              ∙ landing_at (C.month r) from
              ∙ ap Ok (sym is_row)

          stopped : Stopped (C.month r) c → carry C s (neg_ℤ c) ≡ Ok r
          stopped t = let bad : ◌≡◌ {A = ℕ} 0 1 = cc (here, t.gives) in absurd (omega arith)
