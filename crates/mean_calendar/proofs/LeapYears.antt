-- Every year has 12 months and no leap month, or 13 and exactly one, as its head and its months say it.
-- Assumes nothing.
use Rattle.std.specs.Prelude.{Ok}
use Rattle.std.specs.Result.{result_unwrap_or}
use mathlib.Core.Path.{◌≡◌, ◌∙◌, refl, sym, ap}
use mathlib.Core.Bool.{true, false}
use mathlib.Core.Logic.{◌⊎◌, inl, inr, ⊎_elim}
use Prim.Native.Nat.{ℕ, ◌-◌, ◌≤◌, ◌<◌}
use native.Mathlib.Omega.{arith}
use borrow.Author.Tests.{lt-ltb, eq-eqb, ne_eqb}
use Rattle.reckoning.specs.Rule.{month_count, leap_place}
use Rattle.reckoning.specs.Figures.{leap_at}
use Rattle.reckoning.proofs.Leaps.{Common, Long, two_kinds}
use Rattle.lunisolar.specs.Calendars.{Sound, rule_of}
use Rattle.lunisolar.specs.Names.{name_of}
use Rattle.lunisolar.specs.declared.Constants.{Constants}
use Rattle.lunisolar.specs.declared.naming.MonthName.{MonthName}
use Rattle.lunisolar.proofs.Laws.{laws_of}
use Rattle.lunisolar.proofs.Rounds.{name_at_lem}
use Rattle.mean_calendar.specs.Heads.{head_of, year_head}
use Rattle.mean_calendar.specs.Months.{month_of, month_row}
use Rattle.mean_calendar.specs.Answers.{zero_month}
use Rattle.mean_calendar.specs.declared.MeanHead.{MeanHead}
use Rattle.mean_calendar.proofs.Found.{head_found, head_stands, head_month}

-- twelve months, none of them marked leap; or thirteen, of which the one at the leap place is marked and no other
pub record Twelve (k : Constants) (n : ℕ) (head : MeanHead) : Type 0 where
  pub count : head.months ≡ 12
  pub place : head.leap ≡ 0
  pub unmarked : (p : ℕ) → p < 12 → (result_unwrap_or (month_row k n p) zero_month).leap ≡ false

pub record Thirteen (k : Constants) (n : ℕ) (head : MeanHead) : Type 0 where
  pub count : head.months ≡ 13
  pub from : 0 < head.leap
  pub upto : head.leap ≤ 12
  pub marked : (result_unwrap_or (month_row k n head.leap) zero_month).leap ≡ true
  pub no_other : (p : ℕ) → p < 13 → ¬ (p ≡ head.leap) → (result_unwrap_or (month_row k n p) zero_month).leap ≡ false

module _ (k : Constants) (s : Sound k) (n : ℕ) (head : MeanHead) (e : Ok head ≡ year_head k n) where
  abbrev y : ℕ
  y = n - k.first

  is_leap_lem : head.leap ≡ leap_place (rule_of k) y
  unfolding head_of
  is_leap_lem = rw (head_found k n head e).is_head

  is_count : head.months ≡ month_count (rule_of k) y
  unfolding head_of
  is_count = rw (head_found k n head e).is_head

  -- the mark of the month at a place, by the leap place
  mark_at : (p : ℕ) → p < head.months → (result_unwrap_or (month_row k n p) zero_month).leap ≡ leap_at head.leap p
  unfolding month_of
  mark_at p h =
      let t = head_stands k n head e p h in
      ap (λ a. (result_unwrap_or a zero_month).leap) (sym (head_month k n head e p h))
      ∙ ap (λ (m : ℕ). (name_of k m).leap) t.month
      ∙ ap (λ (x : MonthName). x.leap) (name_at_lem k s y p t.place)
      ∙ ap (λ (l : ℕ). leap_at l p) (sym is_leap_lem)

  -- EVERY YEAR HAS 12 MONTHS AND NO LEAP, OR 13 AND EXACTLY ONE
  pub twelve_or_thirteen : Twelve k n head ⊎ Thirteen k n head
  unfolding leap_at
  twelve_or_thirteen =
      ⊎_elim
      (λ (c : Common (rule_of k) (laws_of k s) y).
      let count : head.months ≡ 12 = is_count ∙ c.count in
      let none : head.leap ≡ 0 = is_leap_lem ∙ c.place in
      inl (record { count = count; place = none; unmarked = λ p h. mark_at p (omega (arith, count, h)) ∙ ap (λ (l : ℕ). leap_at l p) none }))
      (λ (c : Long (rule_of k) (laws_of k s) y).
      let count : head.months ≡ 13 = is_count ∙ c.count in
      let some : 0 < head.leap = rw is_leap_lem c.leap.from in
      let upto : head.leap ≤ 12 = rw is_leap_lem c.leap.upto in
      inr
      (record {
        count = count;
        from = some;
        upto = upto;
        marked = mark_at head.leap (omega (arith, count, upto)) ∙ rw (lt-ltb 0 head.leap some, eq-eqb head.leap head.leap refl) refl;
        no_other = λ p h d. mark_at p (omega (arith, count, h)) ∙ rw (lt-ltb 0 head.leap some, ne_eqb p head.leap d) refl;
      }))
      (two_kinds (rule_of k) (laws_of k s) y)
