-- The lent list with the year's first k rows at its front: how long it is, and what the numbers of one row more do to it.
-- Assumes nothing.
use Rattle.std.specs.Result.{result_unwrap_or}
use mathlib.Core.List.{List, ◌++◌}
use mathlib.Core.Path.{◌≡◌, refl, sym, ◌∙◌, ap}
use Prim.Native.Nat.{ℕ, zero, suc, ◌+◌, ◌*◌, ◌/◌, ◌≤◌}
use native.Mathlib.Nat.{add-zero, zero-add}
use native.Mathlib.Numerals.{add-one}
use native.Mathlib.Omega.{arith}
use lib.ListN.{length, drop, length-append, length-drop}
use lib.Seq.{paste, take_at, drop-append-add, drop-drop}
use Rattle.calendar.specs.Rows.{field_count, row_fields}
use Rattle.year_list.specs.Filled.{row_at, rows_from}
use Rattle.year_list.proofs.Fronts.{within}
use Rattle.xinghe.specs.Years.{rows_fields, fill_answer_in, front_fields}

-- the list holds the rows that are written
pub holds : (n have : ℕ) → field_count * result_unwrap_or (fill_answer_in n have) 0 ≤ have
holds n have = omega (arith, within n (have / field_count))

fields_length : (n p k : ℕ) → length (rows_fields (rows_from n p k)) ≡ field_count * k
unfolding rows_fields rows_from
fields_length n p zero = refl
fields_length n p (suc k) = omega (arith, fields_length n (suc p) k)

-- one row more at the end
fields_more : (n p k : ℕ) → rows_fields (rows_from n p (suc k)) ≡ rows_fields (rows_from n p k) ++ row_fields (row_at n (p + k))
unfolding rows_fields rows_from
fields_more n p zero = rw (add-zero p)
fields_more n p (suc k) =
    let e : suc p + k ≡ p + suc k = omega arith in
    ap (λ (l : List ℕ). row_fields (row_at n p) ++ l) (fields_more n (suc p) k ∙ rw e)

module _ (n k : ℕ) (xs : List ℕ) where
  pub as_long : field_count * k ≤ length xs → length (front_fields n k xs) ≡ length xs
  as_long h = omega (arith, length-append (rows_fields (rows_from n 0 k)) (drop (field_count * k) xs), fields_length n 0 k, length-drop (field_count * k) xs)

  -- past the next row the list is as it was
  past : drop (field_count * k + field_count) (front_fields n k xs) ≡ drop (field_count * (k + 1)) xs
  past =
      let e : field_count * k + field_count ≡ field_count * (k + 1) = omega arith in
      ap (λ (m : ℕ). drop (m + field_count) (front_fields n k xs)) (sym (fields_length n 0 k))
      ∙ drop-append-add (rows_fields (rows_from n 0 k)) (drop (field_count * k) xs) field_count
      ∙ drop-drop field_count (field_count * k) xs
      ∙ rw e

  pub one_more : paste (front_fields n k xs) (field_count * k) (row_fields (row_at n k)) field_count ≡ front_fields n (k + 1) xs
  one_more =
      rw (take_at (rows_fields (rows_from n 0 k)) (drop (field_count * k) xs) (field_count * k) (fields_length n 0 k), past, add-one k, fields_more n 0 k, zero-add k)
