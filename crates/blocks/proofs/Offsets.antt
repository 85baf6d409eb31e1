-- Each field of a block stands at its offset, whole.
-- Assumes nothing.
use Rattle.std.specs.Result.{result_unwrap_or}
use mathlib.Core.Path.{◌≡◌, refl, sym, ap, ◌∙◌}
use mathlib.Core.Logic.{⊎_elim}
use mathlib.Core.List.{List, [], ◌++◌, append_assoc, append-nil}
use Prim.Native.Nat.{ℕ, zero, suc, ◌+◌, ◌-◌, ◌*◌, ◌%◌, ◌≤◌, ◌<◌}
use native.Mathlib.Nat.{add-zero, eq-or-lt_of_le}
use native.Mathlib.Omega.{arith}
use lib.ListN.{length, take, get_or, length-append, length-replicate, get_or-append}
use lib.Seq.{get_or-append-add}
use Rattle.calendar.specs.Heads.{year_head}
use Rattle.walking.specs.Fields.{bit_of}
use Rattle.calendar.specs.Answers.{zero_head}
use Rattle.calendar.specs.declared.MonthRow.{MonthRow}
use Rattle.year_list.specs.Filled.{row_at}
use Rattle.totals.specs.Totals.{months_of}
use Rattle.totals.specs.declared.Totals.{Totals}
use Rattle.blocks.specs.Bytes.{le16, zeros, value32, value16}
use Rattle.blocks.specs.Check.{check_of}
use Rattle.blocks.specs.Block.{head_bytes, record_bytes, records, totals_bytes, front_of, body_of, block_of}
use Rattle.blocks.proofs.Blocks.{at_most_13, records_length, front_length}
use Rattle.blocks.proofs.Values.{value_le32, past32, checked, year_of_lem, leaps_of, news_of, fulls_of}
use Rattle.blocks.proofs.Fits.{leap_fits, RowFits, row_fits}

-- a month's record from an offset on
pub record RecordAt (block : List ℕ) (at : ℕ) (row : MonthRow) : Type 0 where
  pub lunation : value32 block at ≡ row.lunation
  pub day : value32 block (at + 4) ≡ row.day
  pub remainder : value32 block (at + 8) ≡ row.remainder.parts
  pub length : get_or block (at + 12) 0 ≡ row.length
  pub number : get_or block (at + 13) 0 ≡ row.number
  pub leap : get_or block (at + 14) 0 ≡ bit_of row.leap
  pub zero : get_or block (at + 15) 0 ≡ 0

-- the block of a year with totals, field after field
pub record Laid (n : ℕ) (t : Totals) (block : List ℕ) : Type 0 where
  pub year : value32 block 0 ≡ n
  pub months : get_or block 4 0 ≡ months_of n
  pub leap : get_or block 5 0 ≡ (result_unwrap_or (year_head n) zero_head).leap
  pub gap : (get_or block 6 0 ≡ 0) × (get_or block 7 0 ≡ 0)
  pub record_at : (p : ℕ) → p < months_of n → RecordAt block (8 + 16 * p) (row_at n p)
  pub unused : (k : ℕ) → 8 + 16 * months_of n ≤ k → k < 216 → get_or block k 0 ≡ 0
  pub leaps : value32 block 216 ≡ t.leaps
  pub news : value32 block 220 ≡ t.news
  pub fulls : value32 block 224 ≡ t.fulls
  pub zeros : (k : ℕ) → 228 ≤ k → k < 510 → get_or block k 0 ≡ 0
  pub check : value16 block 510 ≡ check_of (take 510 block)

-- what comes after a text
past : (xs ys : List ℕ) (n at : ℕ) → length xs ≡ n → get_or (xs ++ ys) (n + at) 0 ≡ get_or ys at 0
past xs ys n at e = rw (← e) (get_or-append-add xs ys at 0)

-- zeros between two texts
between : (xs ys : List ℕ) (m k : ℕ) → length xs ≤ k → k < length xs + m → get_or (xs ++ zeros m ++ ys) k 0 ≡ 0
between xs ys m k lo hi =
    let e : length xs + (k - length xs) ≡ k = omega arith in
    let long : length (zeros m) ≡ m = length-replicate {A = ℕ} m 0 in
    get_or-append (xs ++ zeros m) ys 0 k (omega (arith, length-append xs (zeros m), long))
    ∙ rw (← e) (get_or-append-add xs (zeros m) (k - length xs) 0 ∙ all_zero m (k - length xs))
  where
    all_zero : (m j : ℕ) → get_or (zeros m) j 0 ≡ 0
    all_zero zero j = refl
    all_zero (suc m) zero = refl
    all_zero (suc m) (suc j) = all_zero m j

-- the fields of a record, with anything after it
module _ (row : MonthRow) (rest : List ℕ) where
  number_0 : RowFits row → value32 (record_bytes row ++ rest) 0 ≡ row.lunation
  unfolding record_bytes
  number_0 fits = value_le32 row.lunation [] fits.lunation

  number_4 : RowFits row → value32 (record_bytes row ++ rest) 4 ≡ row.day
  unfolding record_bytes
  number_4 fits = value_le32 row.day [] fits.day

  number_8 : RowFits row → value32 (record_bytes row ++ rest) 8 ≡ row.remainder.parts
  unfolding record_bytes
  number_8 fits = value_le32 row.remainder.parts [] fits.remainder

  byte_12 : RowFits row → get_or (record_bytes row ++ rest) 12 0 ≡ row.length
  unfolding record_bytes
  byte_12 fits = omega (arith, fits.length)

  byte_13 : RowFits row → get_or (record_bytes row ++ rest) 13 0 ≡ row.number
  unfolding record_bytes
  byte_13 fits = omega (arith, fits.number)

  byte_14 : get_or (record_bytes row ++ rest) 14 0 ≡ bit_of row.leap
  unfolding record_bytes
  byte_14 = refl

  byte_15 : get_or (record_bytes row ++ rest) 15 0 ≡ 0
  unfolding record_bytes
  byte_15 = refl

-- the record of a place, and what comes after it
module _ (n : ℕ) where
  records_from : (p k : ℕ) → p < k → (rest : List ℕ) × (records n k ≡ records n p ++ (record_bytes (row_at n p) ++ rest))
  unfolding records
  records_from p zero h = absurd (omega arith)
  records_from p (suc k) h =
      ⊎_elim
      (λ (e : p ≡ k). ([], rw e (ap (λ (l : List ℕ). records n k ++ l) (sym (append-nil (record_bytes (row_at n k)))))))
      (λ (l : p < k).
      let r = records_from p k l in
      (r.0 ++ record_bytes (row_at n k), rw r.1 (append_assoc (records n p) (record_bytes (row_at n p) ++ r.0) (record_bytes (row_at n k)) ∙ ap (λ (x : List ℕ). records n p ++ x) (append_assoc (record_bytes (row_at n p)) r.0 (record_bytes (row_at n k))))))
      (eq-or-lt_of_le {n = p} {m = k} (omega arith))

  module _ (t : Totals) where
    abbrev head : List ℕ
    head = head_bytes n (result_unwrap_or (year_head n) zero_head)

    -- what comes after the records
    abbrev tail : List ℕ
    tail = zeros (16 * (13 - months_of n)) ++ (totals_bytes t ++ (zeros 282 ++ le16 (check_of (body_of n t))))

    block_parts : block_of n t ≡ (head ++ records n (months_of n)) ++ tail
    unfolding block_of body_of front_of
    block_parts =
        let hr = head ++ records n (months_of n) in
        let z = zeros (16 * (13 - months_of n)) in
        let c = le16 (check_of (body_of n t)) in
        append_assoc (hr ++ z ++ totals_bytes t) (zeros 282) c
        ∙ append_assoc (hr ++ z) (totals_bytes t) (zeros 282 ++ c)
        ∙ append_assoc hr z (totals_bytes t ++ (zeros 282 ++ c))

    from_record : (p : ℕ) → p < months_of n → (rest : List ℕ) × (block_of n t ≡ (head ++ records n p) ++ (record_bytes (row_at n p) ++ rest))
    from_record p h =
        let r = records_from p (months_of n) h in
        let b = record_bytes (row_at n p) in (
          r.0 ++ tail,
          block_parts
              ∙ rw (r.1, ← append_assoc head (records n p) (b ++ r.0), append_assoc (head ++ records n p) (b ++ r.0) tail, append_assoc b r.0 tail) refl,
        )

    -- as long as it has to be up to a record
    up_to : (p : ℕ) → length (head ++ records n p) ≡ 8 + 16 * p
    unfolding head_bytes
    up_to p = omega (arith, length-append head (records n p), records_length n p)

    record_is : (p : ℕ) → p < months_of n → RecordAt (block_of n t) (8 + 16 * p) (row_at n p)
    record_is p h =
        let b = from_record p h in
        let fits = row_fits n p h in
        let front = head ++ records n p in
        let row = row_at n p in
        let at : ℕ = 8 + 16 * p in
        rw b.1
        (record {
          lunation = rw (add-zero at) at (past32 front (record_bytes row ++ b.0) at 0 (up_to p)) ∙ number_0 row b.0 fits;
          day = past32 front (record_bytes row ++ b.0) at 4 (up_to p) ∙ number_4 row b.0 fits;
          remainder = past32 front (record_bytes row ++ b.0) at 8 (up_to p) ∙ number_8 row b.0 fits;
          length = past front (record_bytes row ++ b.0) at 12 (up_to p) ∙ byte_12 row b.0 fits;
          number = past front (record_bytes row ++ b.0) at 13 (up_to p) ∙ byte_13 row b.0 fits;
          leap = past front (record_bytes row ++ b.0) at 14 (up_to p) ∙ byte_14 row b.0;
          zero = past front (record_bytes row ++ b.0) at 15 (up_to p) ∙ byte_15 row b.0;
        })

    month_byte : get_or (block_of n t) 4 0 ≡ months_of n % 256
    unfolding block_of body_of front_of head_bytes
    month_byte = refl

    leap_byte : get_or (block_of n t) 5 0 ≡ (result_unwrap_or (year_head n) zero_head).leap % 256
    unfolding block_of body_of front_of head_bytes
    leap_byte = refl

    gap_bytes : (get_or (block_of n t) 6 0 ≡ 0) × (get_or (block_of n t) 7 0 ≡ 0)
    unfolding block_of body_of front_of head_bytes
    gap_bytes = (refl, refl)

    unused_is : (k : ℕ) → 8 + 16 * months_of n ≤ k → k < 216 → get_or (block_of n t) k 0 ≡ 0
    unused_is k lo hi =
        let hr = head ++ records n (months_of n) in
        let rest = totals_bytes t ++ (zeros 282 ++ le16 (check_of (body_of n t))) in
        rw (block_parts, ← append_assoc hr (zeros (16 * (13 - months_of n))) rest)
        (between hr rest (16 * (13 - months_of n)) k (omega (arith, up_to (months_of n))) (omega (arith, up_to (months_of n), at_most_13 n)))

    zeros_is : (k : ℕ) → 228 ≤ k → k < 510 → get_or (block_of n t) k 0 ≡ 0
    unfolding block_of body_of
    zeros_is k lo hi = between (front_of n t) (le16 (check_of (body_of n t))) 282 k (omega (arith, front_length n t)) (omega (arith, front_length n t))

    -- EACH FIELD OF A BLOCK STANDS AT ITS OFFSET, WHOLE: of any year, where its number and the totals are below 2^32
    pub layout : n < 4294967296 → t.leaps < 4294967296 → t.news < 4294967296 → t.fulls < 4294967296 → Laid n t (block_of n t)
    layout small leaps news fulls =
        record {
          year = year_of_lem n t small;
          months = month_byte ∙ omega (arith, at_most_13 n);
          leap = leap_byte ∙ omega (arith, leap_fits n);
          gap = gap_bytes;
          record_at = record_is;
          unused = unused_is;
          leaps = leaps_of n t leaps;
          news = news_of n t news;
          fulls = fulls_of n t fulls;
          zeros = zeros_is;
          check = checked n t;
        }
