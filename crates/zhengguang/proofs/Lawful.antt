-- The rows of the round keep the laws that walks ask, so every theorem of the crate `walking` holds of them.
-- Assumes nothing.
use mathlib.Core.Path.{◌≡◌, ◌∙◌, refl, sym}
use mathlib.Core.Bool.{true}
use mathlib.Core.List.{[], ◌∷◌}
use Prim.Native.Nat.{ℕ, ◌<◌}
use native.Mathlib.Omega.{arith}
use borrow.Author.Tests.{eq-eqb}
use lib.Dec.{eqb, eqb→eq}
use lib.ListN.{get_or, get_or-append}
use Rattle.reckoning.proofs.Searches.{all_at}
use Rattle.walking.specs.Fields.{same_fields}
use Rattle.walking.proofs.Walks.{Lawful}
use Rattle.mean_calendar.specs.Months.{month_of, month_fields}
use Rattle.mean_calendar.proofs.Lawful.{month_by}
use Rattle.zhengguang.specs.Rows.{field_count, row_fields, row_of}
use Rattle.zhengguang.specs.Carries.{rows}
use Rattle.zhengguang.specs.declared.ZhengguangRow.{ZhengguangRow}

eqb_same : (n : ℕ) → eqb n n ≡ true
eqb_same n = eq-eqb n n refl

same_refl : (r : ZhengguangRow) → rows.same r r ≡ true
unfolding same_fields
same_refl r = simp eqb_same

-- a month's numbers are the row's first eight
month_at_lem : (r : ZhengguangRow) (i : ℕ) → i < 8 → get_or (row_fields r) i 0 ≡ get_or (month_fields r.mean) i 0
month_at_lem r i h = get_or-append (month_fields r.mean) (r.degrees ∷ r.residue.parts ∷ []) 0 i h

same_eq : (r s : ZhengguangRow) → rows.same r s ≡ true → r ≡ s
unfolding same_fields
same_eq r s e =
    let at : (i : ℕ) → i < field_count → get_or (row_fields r) i 0 ≡ get_or (row_fields s) i 0 =
    λ i h. eqb→eq (get_or (row_fields r) i 0) (get_or (row_fields s) i 0) (all_at (λ (j : ℕ). eqb (get_or (row_fields r) j 0) (get_or (row_fields s) j 0)) field_count (rw e tt) i h) in
    let mean = month_by r.mean s.mean (λ i h. sym (month_at_lem r i h) ∙ at i (omega (arith, h)) ∙ month_at_lem s i h) in
    λ i. record { mean = mean i; degrees = at 8 (omega arith) i; residue = record { parts = at 9 (omega arith) i } }

pub lawful : Lawful rows
unfolding row_of month_of
lawful = record { month_row_lem = λ m h. refl; same_refl = same_refl; same_eq = same_eq }
