-- Whose an answered head or month is.
-- Assumes nothing.
use Rattle.std.specs.Prelude.{Result, Ok, Err}
use mathlib.Core.Path.{◌≡◌, ◌∙◌, refl, sym, ap}
use Prim.Native.Nat.{ℕ, ◌+◌, ◌-◌, ◌≤◌, ◌<◌}
use native.Mathlib.Omega.{arith}
use borrow.Author.Tests.{le-ltb, lt-ltb}
use Rattle.reckoning.specs.Rule.{month_count}
use Rattle.reckoning.proofs.Leaps.{year_low, year_ends}
use Rattle.refusal.specs.declared.Refusal.{Refusal}
use Rattle.lunisolar.specs.Calendars.{Sound, Stands, rule_of, year_at, lunation_for, lunation_at}
use Rattle.lunisolar.specs.declared.Constants.{Constants}
use Rattle.lunisolar.proofs.Laws.{laws_of, year_found, year_at_lem, lunation_at_lem}
use Rattle.lunisolar.proofs.Rounds.{found}
use Rattle.mean_calendar.specs.Heads.{head_of, head_for, year_head}
use Rattle.mean_calendar.specs.Months.{month_of, month_for, month_row}
use Rattle.mean_calendar.specs.declared.MeanHead.{MeanHead}
use Rattle.mean_calendar.specs.declared.MeanMonth.{MeanMonth}

-- a head that is answered is its year's
pub record HeadFound (k : Constants) (n : ℕ) (head : MeanHead) : Type 0 where
  pub written : k.first ≤ n
  pub upto : n - k.first < k.years
  pub is_head : head ≡ head_of k (n - k.first)

-- and a month that stands there
pub record MonthFound (k : Constants) (n p : ℕ) (month : MeanMonth) : Type 0 where
  pub lunation : ℕ
  pub at : Ok lunation ≡ lunation_at k n p
  pub is_month : month ≡ month_of k lunation

module _ (k : Constants) where
  pub head_found : (n : ℕ) (head : MeanHead) → Ok head ≡ year_head k n → HeadFound k n head
  unfolding head_for
  head_found n head e = go (year_at k n) refl e
    where
      go : (a : Result ℕ Refusal) → a ≡ year_at k n → Ok head ≡ head_for k a → HeadFound k n head
      go (Ok y) q e =
          let f = year_found k n y q in
          let w : n - k.first ≡ y = omega (arith, f.written) in
          let h : head ≡ head_of k y = cc in
          record { written = omega (arith, f.written); upto = rw w f.upto; is_head = rw w h }
      go (Err x) q e = let bad : ◌≡◌ {A = ℕ} 0 1 = cc in absurd (omega arith)

  pub month_found : (n p : ℕ) (month : MeanMonth) → Ok month ≡ month_row k n p → MonthFound k n p month
  unfolding month_for
  month_found n p month e = go (lunation_at k n p) refl e
    where
      go : (a : Result ℕ Refusal) → a ≡ lunation_at k n p → Ok month ≡ month_for k a → MonthFound k n p month
      go (Ok m) q e = record { lunation = m; at = q; is_month = cc }
      go (Err x) q e = let bad : ◌≡◌ {A = ℕ} 0 1 = cc in absurd (omega arith)

  -- each place below its count is that of a month, which is the one at that place of the year
  module _ (n : ℕ) (head : MeanHead) (e : Ok head ≡ year_head k n) (p : ℕ) (h : p < head.months) where
    pub head_stands : Stands k (n - k.first) p (head.before + p)
    unfolding head_of
    head_stands = let f = head_found n head e in record { year = f.upto; place = rw f.is_head at h; month = rw f.is_head }

    pub head_lunation : Ok (head.before + p) ≡ lunation_at k n p
    head_lunation =
        let f = head_found n head e in
        let s = head_stands in
        let w : n - k.first + k.first ≡ n = omega (arith, f.written) in
        rw s.month (sym (lunation_at_lem k (n - k.first) p s.year s.place) ∙ ap (λ (x : ℕ). lunation_at k x p) w)

    pub head_month : Ok (month_of k (head.before + p)) ≡ month_row k n p
    unfolding month_for
    head_month = ap (month_for k) head_lunation

  -- past its count there is no month, and none in a year that is refused
  pub past_count : (n : ℕ) (head : MeanHead) → Ok head ≡ year_head k n → (p : ℕ) → head.months ≤ p → lunation_at k n p ≡ Err Refusal.Place
  unfolding head_for head_of lunation_for
  past_count n head e p h = go (year_at k n) e
    where
      go : (a : Result ℕ Refusal) → Ok head ≡ head_for k a → lunation_for k a p ≡ Err Refusal.Place
      go (Ok y) e =
          let q : head ≡ head_of k y = cc in
          let c : month_count (rule_of k) y ≤ p = omega (arith, h, ap (λ (x : MeanHead). x.months) q) in
          rw (le-ltb p (month_count (rule_of k) y) c) refl
      go (Err x) e = let bad : ◌≡◌ {A = ℕ} 0 1 = cc in absurd (omega arith)

  pub no_year : (n : ℕ) (x : Refusal) → Err x ≡ year_head k n → (p : ℕ) → lunation_at k n p ≡ Err x
  unfolding head_for lunation_for
  no_year n x e p = go (year_at k n) e
    where
      go : (a : Result ℕ Refusal) → Err x ≡ head_for k a → lunation_for k a p ≡ Err x
      go (Ok y) e = let bad : ◌≡◌ {A = ℕ} 0 1 = cc in absurd (omega arith)
      go (Err z) e = let q : x ≡ z = cc in rw q refl

  -- a year is answered where its first month is, and as that is
  module _ (s : Sound k) where
    pub first_head : (n m : ℕ) → Ok m ≡ lunation_at k n 0 → Ok (head_of k (n - k.first)) ≡ year_head k n
    unfolding head_for
    first_head n m e =
        let f = found k s n 0 m e in
        let w : n - k.first + k.first ≡ n = omega (arith, f.0) in
        ap (head_for k) (sym (year_at_lem k (n - k.first) f.1.year) ∙ ap (year_at k) w)

    pub no_first : (n : ℕ) (x : Refusal) → Err x ≡ lunation_at k n 0 → Err x ≡ year_head k n
    unfolding head_for lunation_for
    no_first n x e = go (year_at k n) e
      where
        go : (a : Result ℕ Refusal) → Err x ≡ lunation_for k a 0 → Err x ≡ head_for k a
        go (Ok y) e =
            let some : 0 < month_count (rule_of k) y = omega (arith, year_low (rule_of k) (laws_of k s) y, year_ends (rule_of k) (laws_of k s) y) in
            let c : Err x ≡ Ok ((rule_of k).before y + 0) = rw (lt-ltb 0 (month_count (rule_of k) y) some) at e in
            let bad : ◌≡◌ {A = ℕ} 0 1 = cc in
            absurd (omega arith)
        go (Err z) e = let q : x ≡ z = cc in rw q refl
