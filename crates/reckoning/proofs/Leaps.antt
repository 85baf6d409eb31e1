-- What follows from a rule's laws alone: at most one middle term to a month, years of 12 or 13 months, and the leap month.
-- Assumes nothing.
use mathlib.Core.Path.{◌≡◌, ◌∙◌, ap, sym}
use mathlib.Core.Logic.{◌⊎◌, inl, inr, ⊎_elim, ◌≢◌, ◌↔◌}
use mathlib.Core.Bool.{Bool}
use Prim.Native.Nat.{ℕ, suc, ◌+◌, ◌-◌, ◌*◌, ◌≤◌, ◌<◌}
use native.Mathlib.Omega.{arith}
use native.Mathlib.Nat.{mul-suc}
use borrow.Author.Tests.{lt-ltb, le-ltb, le-leb, lt-leb}
use lib.Dec.{T, leb, ltb, T_not, not_T, lt→ltb, ltb→lt}
use Rattle.reckoning.specs.Search.{any}
use Rattle.reckoning.specs.Rule.{Rule, month_count, is_leap, leap_place}
use Rattle.reckoning.specs.Figures.{leap_come}
use Rattle.reckoning.proofs.Searches.{first_is, first_none, any_of, any_gives, least, le_or_lt, same_or, not_ltb}
use Rattle.reckoning.proofs.Climbs.{Climbs, climb_by, climb_lt}
use Rattle.reckoning.proofs.Laws.{Laws}

module _ (R : Rule) (L : Laws R) where
  -- the terms climb through the months, and so do the years
  terms_climb : Climbs L.month
  terms_climb = record { start = L.start; step = L.rise }

  rises_by : (d j : ℕ) → L.month j + d ≤ L.month (j + d)
  rises_by d j = climb_by L.month terms_climb d j

  pub year_low : (y : ℕ) → R.before y + 12 ≤ R.before (suc y)
  year_low y = rw (L.opens y, L.opens (suc y), mul-suc 12 y) (rises_by 12 (12 * y))

  pub year_high : (y : ℕ) → R.before (suc y) ≤ R.before y + 13
  year_high y = rw (L.opens y, L.opens (suc y), mul-suc 12 y) (L.span (12 * y))

  pub years_climb : Climbs R.before
  years_climb = record { start = L.opens 0 ∙ L.start; step = λ y. omega (arith, year_low y) }

  pub year_ends : (y : ℕ) → R.before y + month_count R y ≡ R.before (suc y)
  unfolding month_count
  year_ends y = omega (arith, year_low y)

  -- A YEAR BEGINS WITH THE MONTH THAT HOLDS ITS SOLSTICE, which is its first middle term, and with no other
  pub solstice_month : (m y : ℕ) → T (R.holds m (12 * y)) ↔ (m ≡ R.before y)
  solstice_month m y = (λ t. L.only m (12 * y) t ∙ sym (L.opens y), λ e. rw (e, L.opens y) (L.held (12 * y)))

  -- EACH MONTH HOLDS AT MOST ONE MIDDLE TERM
  pub one_term : (m i j : ℕ) → T (R.holds m i) → T (R.holds m j) → i ≡ j
  one_term m i j s t =
      omega (
        arith,
        climb_lt L.month terms_climb i (suc j) (omega (arith, L.only m i s, L.only m j t, L.rise j)),
        climb_lt L.month terms_climb j (suc i) (omega (arith, L.only m i s, L.only m j t, L.rise i)),
      )

  -- a month of year y holds only that year's terms
  within : (y m j : ℕ) → R.before y ≤ m → m < R.before (suc y) → T (R.holds m j) → (12 * y ≤ j) × (j < 12 * suc y)
  within y m j lo hi t =
      let e = L.only m j t in
      let a = climb_lt L.month terms_climb (12 * y) (suc j) (omega (arith, L.opens y, L.rise j)) in
      (omega arith, climb_lt L.month terms_climb j (12 * suc y) (omega (arith, L.opens (suc y))))

  module _ (y : ℕ) where
    -- where the k-th term may lie
    term_low : (k : ℕ) → R.before y + k ≤ L.month (12 * y + k)
    term_low k = omega (arith, rises_by k (12 * y), L.opens y)

    term_left : (k d : ℕ) → k + d ≡ 12 → L.month (12 * y + k) + d ≤ R.before (suc y)
    term_left k d e =
        let i : 12 * y + k + d ≡ 12 * suc y = omega arith in
        rw (L.opens (suc y), ← i) (rises_by d (12 * y + k))

    term_high : (k : ℕ) → k ≤ 12 → L.month (12 * y + k) + 12 ≤ R.before (suc y) + k
    term_high k h = omega (arith, term_left k (12 - k) (omega arith))

    leap_not : (m k : ℕ) → k < 12 → m ≡ L.month (12 * y + k) → ¬ (T (is_leap R y m))
    unfolding is_leap
    leap_not m k h e t =
        T_not (any (λ i. R.holds m (12 * y + i)) 12) t
        (any_of (λ i. R.holds m (12 * y + i)) 12 k h (rw e (L.held (12 * y + k))))

    leap_by : (m : ℕ) → ((k : ℕ) → k < 12 → ¬ (m ≡ L.month (12 * y + k))) → T (is_leap R y m)
    unfolding is_leap
    leap_by m none =
        not_T (any (λ k. R.holds m (12 * y + k)) 12)
        (λ t. let r = any_gives (λ k. R.holds m (12 * y + k)) 12 t in none r.0 r.1 (L.only m (12 * y + r.0) r.2))

    -- a leap month holds no middle term at all, of whatever year
    pub leap_holds_none : (m j : ℕ) → R.before y ≤ m → m < R.before (suc y) → T (is_leap R y m) → ¬ (T (R.holds m j))
    leap_holds_none m j lo hi t u =
        let w = within y m j lo hi u in
        let i : j ≡ 12 * y + (j - 12 * y) = omega arith in
        leap_not m (j - 12 * y) (omega arith) (L.only m j u ∙ ap L.month i) t

    -- a year of twelve months: term k in place k, and no leap month
    module _ (common : R.before (suc y) ≡ R.before y + 12) where
      pub common_not_leap : (p : ℕ) → p < 12 → ¬ (T (is_leap R y (R.before y + p)))
      common_not_leap p h = leap_not (R.before y + p) p h (omega (arith, term_low p, term_high p (omega arith)))

      pub common_leap : leap_place R y ≡ 0
      unfolding leap_place month_count
      common_leap = first_none (λ p. is_leap R y (R.before y + p)) (R.before (suc y) - R.before y) 0 (λ q a b. common_not_leap q (omega arith))

    -- a year of thirteen, with the step over a month at term l: term k in place k before it, one on from there
    module _ (l : ℕ) (some : 1 ≤ l) (long : R.before (suc y) ≡ R.before y + 13) (top : l ≤ 12)
        (under : (k : ℕ) → k < l → L.month (12 * y + k) ≤ R.before y + k)
        (over : R.before y + l < L.month (12 * y + l)) where
      late : (k : ℕ) → l ≤ k → k ≤ 12 → L.month (12 * y + k) ≡ R.before y + k + 1
      late k h t =
          let i : 12 * y + l + (k - l) ≡ 12 * y + k = omega arith in
          omega (arith, rw i at (rises_by (k - l) (12 * y + l)), term_high k t)

      step_leap : T (is_leap R y (R.before y + l))
      step_leap =
          leap_by (R.before y + l)
          (λ k h e. ⊎_elim (λ (a : l ≤ k). omega (arith, late k a (omega arith))) (λ (b : k < l). omega (arith, under k b)) (le_or_lt l k))

      step_full : (p : ℕ) → p < 13 → p ≢ l → ¬ (T (is_leap R y (R.before y + p)))
      step_full p h n =
          ⊎_elim
          (λ (a : l ≤ p). let i : R.before y + p ≡ L.month (12 * y + (p - 1)) = omega (arith, late (p - 1) (omega arith) (omega arith)) in
          leap_not (R.before y + p) (p - 1) (omega arith) i)
          (λ (b : p < l). leap_not (R.before y + p) p (omega arith) (omega (arith, term_low p, under p b)))
          (le_or_lt l p)

      step_place : leap_place R y ≡ l
      unfolding leap_place month_count
      step_place =
          first_is (λ p. is_leap R y (R.before y + p)) (R.before (suc y) - R.before y) 0 l (omega arith) (omega arith) step_leap
          (λ q a b. step_full q (omega arith) (omega arith))

  -- a year of thirteen months: its leap place holds the one leap month
  pub record LeapYear (y l : ℕ) : Type 0 where
    pub from : 1 ≤ l
    pub upto : l ≤ 12
    pub place : leap_place R y ≡ l
    pub leap : T (is_leap R y (R.before y + l))
    pub alone : (p : ℕ) → p < 13 → T (is_leap R y (R.before y + p)) → p ≡ l
    -- term k lies at place k before it, and one place on from there
    pub early : (k : ℕ) → k < l → L.month (12 * y + k) ≡ R.before y + k
    pub late : (k : ℕ) → l ≤ k → k ≤ 12 → L.month (12 * y + k) ≡ R.before y + k + 1

  leap_from : (y l : ℕ) → R.before (suc y) ≡ R.before y + 13 → l ≤ 12 → R.before y + l < L.month (12 * y + l)
      → ((k : ℕ) → k < l → L.month (12 * y + k) ≤ R.before y + k) → LeapYear y l
  leap_from y l long top over under =
      let some : 1 ≤ l = ⊎_elim (λ (a : 1 ≤ l). a)
      (λ (b : l < 1). let z : 12 * y + l ≡ 12 * y = omega arith in absurd (omega (arith, rw z at over, L.opens y)))
      (le_or_lt 1 l) in
      record {
        from = some;
        upto = top;
        place = step_place y l some long top under over;
        leap = step_leap y l some long top under over;
        alone = λ p h t. ⊎_elim
            (λ (e : p ≡ l). e)
            (λ (n : p ≢ l). absurd (step_full y l some long top under over p h n t))
            (same_or p l);
        early = λ k h. omega (arith, term_low y k, under k h);
        late = late y l some long top under over;
      }

  pub leap_year : (y : ℕ) → R.before (suc y) ≡ R.before y + 13 → LeapYear y (leap_place R y)
  leap_year y long =
      let f : ℕ → Bool = λ k. ltb (R.before y + k) (L.month (12 * y + k)) in
      let e : 12 * y + 12 ≡ 12 * suc y = omega arith in
      let r = least f 12 (lt→ltb (R.before y + 12) (L.month (12 * y + 12)) (rw e (omega (arith, L.opens (suc y))))) in
      let l = leap_from y r.0 long r.1 (ltb→lt _ _ r.2) (λ k h. not_ltb (R.before y + k) (L.month (12 * y + k)) (r.3 k h)) in
      rw l.place l

  -- A YEAR HAS TWELVE MONTHS, EACH WITH A MIDDLE TERM, OR THIRTEEN, OF WHICH EXACTLY ONE HOLDS NONE
  pub record Common (y : ℕ) : Type 0 where
    pub count : month_count R y ≡ 12
    pub none : (p : ℕ) → p < 12 → ¬ (T (is_leap R y (R.before y + p)))
    pub place : leap_place R y ≡ 0

  pub record Long (y : ℕ) : Type 0 where
    pub count : month_count R y ≡ 13
    pub leap : LeapYear y (leap_place R y)

  pub common : (y : ℕ) → R.before (suc y) ≡ R.before y + 12 → Common y
  common y e = record { count = omega (arith, year_ends y); none = common_not_leap y e; place = common_leap y e }

  pub long : (y : ℕ) → R.before (suc y) ≡ R.before y + 13 → Long y
  long y e = record { count = omega (arith, year_ends y); leap = leap_year y e }

  pub two_kinds : (y : ℕ) → Common y ⊎ Long y
  two_kinds y =
      ⊎_elim
      (λ (a : R.before (suc y) ≤ R.before y + 12). inl (common y (omega (arith, year_low y))))
      (λ (b : R.before y + 12 < R.before (suc y)). inr (long y (omega (arith, year_high y))))
      (le_or_lt (R.before (suc y)) (R.before y + 12))

  -- in a year with a leap month, term p lies beyond the month at place p from the leap place on, also past the year's end
  pub past_leap_in : (y p : ℕ) → 0 < leap_place R y → ltb (R.before y + p) (L.month (12 * y + p)) ≡ leb (leap_place R y) p
  past_leap_in y p some = ⊎_elim (λ (c : Common y). absurd (omega (arith, some, c.place))) of_long (two_kinds y)
    where
      of_long : Long y → ltb (R.before y + p) (L.month (12 * y + p)) ≡ leb (leap_place R y) p
      of_long c =
          let l : ℕ = leap_place R y in
          ⊎_elim
          (λ (a : l ≤ p).
          let i : 12 * y + l + (p - l) ≡ 12 * y + p = omega arith in
          let over = c.leap.late l (omega arith) c.leap.upto in
          rw (le-leb l p a) (lt-ltb (R.before y + p) (L.month (12 * y + p)) (omega (arith, over, rw i at (rises_by (p - l) (12 * y + l))))))
          (λ (a : p < l).
          rw (lt-leb l p a) (le-ltb (R.before y + p) (L.month (12 * y + p)) (omega (arith, c.leap.early p a))))
          (le_or_lt l p)

  -- and in any year up to place 12: whether the leap month stands at p or before
  pub past_leap : (y p : ℕ) → p ≤ 12 → ltb (R.before y + p) (L.month (12 * y + p)) ≡ leap_come (leap_place R y) p
  unfolding leap_come
  past_leap y p h =
      ⊎_elim
      (λ (c : Common y).
      rw (le-ltb 0 (leap_place R y) (omega (arith, c.place)))
      (le-ltb (R.before y + p) (L.month (12 * y + p)) (omega (arith, term_high y p h, year_ends y, c.count))))
      (λ (c : Long y). rw (lt-ltb 0 (leap_place R y) (omega (arith, c.leap.from))) (past_leap_in y p (omega (arith, c.leap.from))))
      (two_kinds y)
