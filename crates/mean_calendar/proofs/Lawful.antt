-- The months of any calendar keep the laws that walks ask, so every theorem of the crate `walking` holds of them.
-- Assumes nothing.
use mathlib.Core.Path.{◌≡◌, refl}
use mathlib.Core.Bool.{true}
use Prim.Native.Nat.{ℕ, ◌<◌}
use native.Mathlib.Omega.{arith}
use borrow.Author.Tests.{eq-eqb}
use lib.Dec.{eqb, eqb→eq}
use lib.ListN.{get_or}
use Rattle.reckoning.proofs.Searches.{all_at}
use Rattle.lunisolar.specs.declared.Constants.{Constants}
use Rattle.walking.specs.Fields.{same_fields}
use Rattle.walking.proofs.Walks.{Lawful}
use Rattle.walking.proofs.Bits.{bit_eq}
use Rattle.mean_calendar.specs.Months.{field_count, month_fields, month_of}
use Rattle.mean_calendar.specs.Carries.{months_of}
use Rattle.mean_calendar.specs.declared.MeanMonth.{MeanMonth}

-- a month is told by its numbers
pub month_by : (r s : MeanMonth) → ((i : ℕ) → i < field_count → get_or (month_fields r) i 0 ≡ get_or (month_fields s) i 0) → r ≡ s
month_by r s at =
    λ i. record {
      lunation = at 0 (omega arith) i;
      year = at 1 (omega arith) i;
      place = at 2 (omega arith) i;
      number = at 3 (omega arith) i;
      leap = bit_eq r.leap s.leap (at 4 (omega arith)) i;
      day = at 5 (omega arith) i;
      remainder = record { parts = at 6 (omega arith) i };
      length = at 7 (omega arith) i;
    }

eqb_same : (n : ℕ) → eqb n n ≡ true
eqb_same n = eq-eqb n n refl

same_refl : (k : Constants) (r : MeanMonth) → (months_of k).same r r ≡ true
unfolding same_fields
same_refl k r = simp eqb_same

same_eq : (k : Constants) (r s : MeanMonth) → (months_of k).same r s ≡ true → r ≡ s
unfolding same_fields
same_eq k r s e =
    let at = all_at (λ (i : ℕ). eqb (get_or (month_fields r) i 0) (get_or (month_fields s) i 0)) field_count (rw e tt) in
    month_by r s (λ i h. eqb→eq (get_or (month_fields r) i 0) (get_or (month_fields s) i 0) (at i h))

pub lawful : (k : Constants) → Lawful (months_of k)
unfolding month_of
lawful k = record { month_row_lem = λ m h. refl; same_refl = same_refl k; same_eq = same_eq k }
