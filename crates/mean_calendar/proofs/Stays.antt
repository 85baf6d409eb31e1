-- A carry stays within the months of its calendar's years, and a month is the one at its own year and place.
-- Assumes nothing.
use Rattle.std.specs.Prelude.{Ok, Err}
use Rattle.refusal.specs.declared.Refusal.{Refusal}
use mathlib.Core.Path.{◌≡◌, refl, ap}
use mathlib.Core.Bool.{Bool, true, false}
use Prim.Native.Nat.{ℕ, ◌<◌}
use native.Mathlib.Omega.{arith}
use lib.IntN.{ℤ, pos, nat_abs, ◌+ℤ◌}
use Rattle.reckoning.specs.Search.{pick}
use Rattle.lunisolar.specs.Calendars.{Sound}
use Rattle.lunisolar.specs.declared.Constants.{Constants}
use Rattle.lunisolar.proofs.Rounds as rounds
use Rattle.walking.specs.Walk.{in_round, genuine}
use Rattle.walking.proofs.Program.{inside}
use Rattle.mean_calendar.specs.Months.{month_of, month_for, month_row}
use Rattle.mean_calendar.specs.Carries.{months_of, carried}
use Rattle.mean_calendar.specs.declared.MeanMonth.{MeanMonth}

module _ (k : Constants) (s : Sound k) where
  pub month_to_place : (m : ℕ) → m < k.lunations → month_row k (month_of k m).year (month_of k m).place ≡ Ok (month_of k m)
  unfolding month_of month_for
  month_to_place m h = ap (month_for k) (rounds.month_to_place k s m h)

  in_months : (m : ℕ) → m < k.lunations → ((month_of k m).lunation < k.lunations) × (month_row k (month_of k m).year (month_of k m).place ≡ Ok (month_of k m))
  unfolding month_of
  in_months m h = (h, month_to_place m h)

  -- WHAT A CARRY ANSWERS IS THE MONTH AT SOME YEAR AND PLACE OF THE CALENDAR
  pub carry_stays : (r : MeanMonth) (c : ℤ) (x : MeanMonth) → carried k r c ≡ Ok x → (x.lunation < k.lunations) × (month_row k x.year x.place ≡ Ok x)
  carry_stays r c x e = go (pos r.lunation +ℤ c) (genuine (months_of k) r) (in_round k.lunations (pos r.lunation +ℤ c)) refl e
    where
      go : (z : ℤ) (g i : Bool) → in_round k.lunations z ≡ i → (pick g (pick i (Ok (month_of k (nat_abs z))) (Err Refusal.Carry)) (Err Refusal.Row)) ≡ Ok x →
          (x.lunation < k.lunations) × (month_row k x.year x.place ≡ Ok x)
      go z true true i e =
          let q : x ≡ month_of k (nat_abs z) = cc in
          rw q (in_months (nat_abs z) (inside k.lunations z i))
      go z true false i e = let bad : ◌≡◌ {A = ℕ} 0 1 = cc in absurd (omega arith)
      go z false b i e = let bad : ◌≡◌ {A = ℕ} 0 1 = cc in absurd (omega arith)
