-- Rows handed in as numbers: which are genuine, and that a row handed in as its own numbers is carried as the row is.
-- Assumes nothing.
use Rattle.std.specs.Prelude.{Ok, Err}
use Rattle.refusal.specs.declared.Refusal.{Refusal}
use Rattle.refusal.specs.Numbers.{answer_number}
use mathlib.Core.Path.{◌≡◌, refl}
use mathlib.Core.Bool.{Bool, true, false}
use mathlib.Core.List.{List}
use Prim.Native.Nat.{ℕ, ◌≤◌, ◌<◌}
use native.Mathlib.Omega.{arith}
use lib.IntN.{ℤ, pos, nat_abs, ◌+ℤ◌}
use lib.ListN.{length, get_or}
use Rattle.reckoning.specs.Search.{pick}
use Rattle.mean_calendar.specs.Months.{month_of}
use Rattle.units.specs.Xinghe.{round_months}
use Rattle.walking.specs.Walk.{in_round}
use Rattle.walking.specs.Fields.{named_month}
use Rattle.walking.proofs.Walks.{row_genuine}
use Rattle.walking.proofs.Bits.{bit_most}
use Rattle.walking.proofs.HandedIn as handed
use Rattle.node.specs.Sides.{side_number}
use Rattle.node.specs.declared.Side.{Side}
use Rattle.calendar.specs.Rows.{field_count, row_fields, row_of}
use Rattle.calendar.specs.Carries.{months, carried, genuine_fields, carried_fields}
use Rattle.calendar.specs.declared.MonthRow.{MonthRow}
use Rattle.calendar.proofs.Lawful.{lawful}

-- EVERY MONTH'S OWN NUMBERS ARE GENUINE
pub row_is_genuine : (m : ℕ) → m < round_months → genuine_fields (row_fields (row_of m)) ≡ true
unfolding row_of month_of
row_is_genuine m h = row_genuine months lawful m h

-- A ROW HANDED IN AS ITS NUMBERS IS CARRIED AS THE ROW IS
pub carry_handed_in : (r : MonthRow) (c : ℤ) → carried_fields (row_fields r) c ≡ carried r c
carry_handed_in r c = refl

side_most : (s : Side) → side_number s ≤ 2
side_most Side.AtNode = omega arith
side_most Side.Outside = omega arith
side_most Side.Inside = omega arith

module _ (f : List ℕ) where
  -- GENUINE NUMBERS ARE, EVERY ONE OF THEM, THOSE OF THE ROW OF THE MONTH OF THE ROUND THAT THEY NAME
  pub genuine_is_row : length f ≡ field_count → genuine_fields f ≡ true → (named_month f < round_months) × (f ≡ row_fields (row_of (named_month f)))
  genuine_is_row l g = handed.genuine_is_row months field_count row_fields f l refl g

  -- REFUSED UNDER 4 EXACTLY WHERE THEY ARE NOT GENUINE, then under 5 exactly where the count leads outside the round
  pub carry_numbers : (c : ℤ) → answer_number (carried_fields f c) ≡ pick (genuine_fields f) (pick (in_round round_months (pos (named_month f) +ℤ c)) 0 5) 4
  carry_numbers c = go (genuine_fields f) (in_round round_months (pos (named_month f) +ℤ c))
    where
      go : (b i : Bool) → answer_number ((pick b (pick i (Ok (row_of (nat_abs (pos (named_month f) +ℤ c)))) (Err Refusal.Carry)) (Err Refusal.Row))) ≡ pick b (pick i 0 5) 4
      go true true = refl
      go true false = refl
      go false i = refl

  -- A LEAP MARK OTHER THAN 0 AND 1, OR A SIDE OTHER THAN 0, 1 AND 2, IS NO GENUINE ROW'S
  pub forged_mark : 1 < get_or f 4 0 → genuine_fields f ≡ false
  forged_mark h =
      handed.not_genuine months field_count row_fields f
      (λ g. omega (arith, h, handed.same_at months field_count row_fields f g 4 (omega arith), bit_most (row_of (named_month f)).leap))

  pub forged_side : 2 < get_or f 10 0 → genuine_fields f ≡ false
  forged_side h =
      handed.not_genuine months field_count row_fields f
      (λ g. omega (arith, h, handed.same_at months field_count row_fields f g 10 (omega arith), side_most (row_of (named_month f)).side))
