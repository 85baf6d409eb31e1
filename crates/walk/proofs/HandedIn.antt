-- Walks from rows handed in as numbers: a row handed in as its own numbers is walked as the row is, and what is no genuine row's is refused.
-- Assumes nothing.
use Rattle.std.specs.Prelude.{Ok, Err}
use Rattle.refusal.specs.Numbers.{answer_number}
use mathlib.Core.Path.{◌≡◌, refl}
use mathlib.Core.Bool.{Bool, true, false}
use mathlib.Core.List.{List}
use Prim.Native.Nat.{ℕ}
use lib.IntN.{ℤ}
use Rattle.reckoning.specs.Search.{pick}
use Rattle.refusal.specs.declared.Refusal.{Refusal}
use Rattle.walking.specs.Walk.{genuine}
use Rattle.walking.proofs.Walks.{genuine_row}
use Rattle.calendar.specs.Rows.{row_fields, row_of}
use Rattle.walking.specs.Fields.{named_month}
use Rattle.calendar.specs.Carries.{months, genuine_fields}
use Rattle.calendar.specs.declared.MonthRow.{MonthRow}
use Rattle.calendar.proofs.Lawful.{lawful}
use Rattle.walk.specs.Walked.{walked, walk_answer, walk_answer_fields}

-- A ROW HANDED IN AS ITS NUMBERS IS WALKED AS THE ROW IS
pub walk_handed_in : (r : MonthRow) (cs : List ℤ) → walk_answer_fields (row_fields r) cs ≡ walk_answer r cs
walk_handed_in r cs = go (genuine months r) refl
  where
    go : (b : Bool) → genuine months r ≡ b → walk_answer_fields (row_fields r) cs ≡ walk_answer r cs
    go true g = rw (← (genuine_row months lawful r g).1) refl
    go false g = rw g refl

-- REFUSED UNDER 4 EXACTLY WHERE THEY ARE NOT GENUINE
pub walk_fields_numbers : (f : List ℕ) (cs : List ℤ) → answer_number (walk_answer_fields f cs) ≡ pick (genuine_fields f) 0 4
walk_fields_numbers f cs = go (genuine_fields f)
  where
    go : (b : Bool) → answer_number (pick b (Ok (walked (row_of (named_month f)) cs)) (Err Refusal.Row)) ≡ pick b 0 4
    go true = refl
    go false = refl
