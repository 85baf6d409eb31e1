-- The months of the round keep the laws that walks ask, so every theorem of the crate `walking` holds of them.
-- Assumes nothing.
use mathlib.Core.Path.{◌≡◌, ◌∙◌, refl, sym, ap}
use mathlib.Core.Bool.{true}
use Prim.Native.Nat.{ℕ}
use native.Mathlib.Omega.{arith}
use borrow.Author.Tests.{eq-eqb}
use lib.Dec.{eqb, eqb→eq}
use lib.ListN.{get_or}
use Rattle.reckoning.specs.Search.{pick}
use Rattle.reckoning.proofs.Searches.{all_at}
use Rattle.walking.specs.Fields.{bit_of, same_fields}
use Rattle.walking.proofs.Walks.{Lawful}
use Rattle.walking.proofs.Bits.{bit_eq}
use Rattle.mean_calendar.specs.Months.{month_of}
use Rattle.node.specs.Sides.{side_number}
use Rattle.node.specs.declared.Side.{Side}
use Rattle.calendar.specs.Rows.{field_count, row_fields, row_of}
use Rattle.calendar.specs.Carries.{months}
use Rattle.calendar.specs.declared.MonthRow.{MonthRow}

-- a side is told by its number
side_eq : (s t : Side) → side_number s ≡ side_number t → s ≡ t
side_eq s t e = told s ∙ ap numbered e ∙ sym (told t)
  where
    numbered : ℕ → Side
    numbered n = pick (eqb n 0) Side.AtNode (pick (eqb n 1) Side.Outside Side.Inside)

    told : (s : Side) → s ≡ numbered (side_number s)
    told Side.AtNode = refl
    told Side.Outside = refl
    told Side.Inside = refl

eqb_same : (n : ℕ) → eqb n n ≡ true
eqb_same n = eq-eqb n n refl

same_refl : (r : MonthRow) → months.same r r ≡ true
unfolding same_fields
same_refl r = simp eqb_same

same_eq : (r s : MonthRow) → months.same r s ≡ true → r ≡ s
unfolding same_fields
same_eq r s e =
    let at = all_at (λ (i : ℕ). eqb (get_or (row_fields r) i 0) (get_or (row_fields s) i 0)) field_count (rw e tt) in
    λ i. record {
      lunation = eqb→eq r.lunation s.lunation (at 0 (omega arith)) i;
      year = eqb→eq r.year s.year (at 1 (omega arith)) i;
      place = eqb→eq r.place s.place (at 2 (omega arith)) i;
      number = eqb→eq r.number s.number (at 3 (omega arith)) i;
      leap = bit_eq r.leap s.leap (eqb→eq (bit_of r.leap) (bit_of s.leap) (at 4 (omega arith))) i;
      day = eqb→eq r.day s.day (at 5 (omega arith)) i;
      remainder = record { parts = eqb→eq r.remainder.parts s.remainder.parts (at 6 (omega arith)) i };
      length = eqb→eq r.length s.length (at 7 (omega arith)) i;
      degrees = eqb→eq r.degrees s.degrees (at 8 (omega arith)) i;
      residue = record { parts = eqb→eq r.residue.parts s.residue.parts (at 9 (omega arith)) i };
      side = side_eq r.side s.side (eqb→eq (side_number r.side) (side_number s.side) (at 10 (omega arith))) i;
      anomaly = eqb→eq r.anomaly s.anomaly (at 11 (omega arith)) i;
      rest = record { parts = eqb→eq r.rest.parts s.rest.parts (at 12 (omega arith)) i };
    }

pub lawful : Lawful months
unfolding row_of month_of
lawful = record { month_row_lem = λ m h. refl; same_refl = same_refl; same_eq = same_eq }
