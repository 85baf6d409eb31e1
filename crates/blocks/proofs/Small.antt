-- What the writer puts in a block are bytes.
-- Assumes nothing.
use Rattle.std.specs.Result.{result_unwrap_or}
use mathlib.Core.Path.{◌≡◌}
use mathlib.Core.Bool.{Bool, true, false}
use mathlib.Core.Logic.{⊎_elim}
use mathlib.Core.List.{List, [], ◌∷◌, ◌++◌}
use Prim.Native.Nat.{ℕ, zero, suc, ◌+◌, ◌-◌, ◌*◌, ◌/◌, ◌%◌, ◌≤◌, ◌<◌}
use native.Mathlib.Omega.{arith}
use lib.Dec.{lit<}
use lib.ListN.{length, get_or, get_or-append}
use lib.Seq.{get_or-append-add}
use Rattle.reckoning.proofs.Searches.{le_or_lt}
use Rattle.calendar.specs.Heads.{year_head}
use Rattle.walking.specs.Fields.{bit_of}
use Rattle.calendar.specs.Answers.{zero_head}
use Rattle.calendar.specs.declared.YearHead.{YearHead}
use Rattle.calendar.specs.declared.MonthRow.{MonthRow}
use Rattle.year_list.specs.Filled.{row_at}
use Rattle.totals.specs.Totals.{months_of}
use Rattle.totals.specs.declared.Totals.{Totals}
use Rattle.blocks.specs.Bytes.{le32, le16, zeros}
use Rattle.blocks.specs.Check.{check_of}
use Rattle.blocks.specs.Block.{head_bytes, record_bytes, records, totals_bytes, front_of, body_of, block_of}

-- each is below 256
abbrev pub Bytes : List ℕ → Type 0
Bytes l = (k : ℕ) → get_or l k 0 < 256

pub none : Bytes []
none k = lit< tt

one : (b : ℕ) (bs : List ℕ) → b < 256 → Bytes bs → Bytes (b ∷ bs)
one b bs h r zero = h
one b bs h r (suc k) = r k

pub joined : (xs ys : List ℕ) → Bytes xs → Bytes ys → Bytes (xs ++ ys)
joined xs ys a b k =
    ⊎_elim
    (λ (h : length xs ≤ k).
    let e : length xs + (k - length xs) ≡ k = omega arith in
    rw (← e, get_or-append-add xs ys (k - length xs) 0) (b (k - length xs)))
    (λ (h : k < length xs). rw (get_or-append xs ys 0 k h) (a k))
    (le_or_lt (length xs) k)

zeros_are : (n : ℕ) → Bytes (zeros n)
zeros_are zero = none
zeros_are (suc n) = one 0 (zeros n) (lit< tt) (zeros_are n)

rest_small : (x : ℕ) → x % 256 < 256
rest_small x = omega arith

four : (a b c d : ℕ) → a < 256 → b < 256 → c < 256 → d < 256 → Bytes (a ∷ b ∷ c ∷ d ∷ [])
four a b c d ha hb hc hd = one a (b ∷ c ∷ d ∷ []) ha (one b (c ∷ d ∷ []) hb (one c (d ∷ []) hc (one d [] hd none)))

four_are : (x : ℕ) → Bytes (le32 x)
four_are x = four (x % 256) (x / 256 % 256) (x / 65536 % 256) (x / 16777216 % 256) (rest_small x) (rest_small (x / 256)) (rest_small (x / 65536)) (rest_small (x / 16777216))

two_are : (x : ℕ) → Bytes (le16 x)
two_are x = one (x % 256) (x / 256 % 256 ∷ []) (rest_small x) (one (x / 256 % 256) [] (rest_small (x / 256)) none)

bit_small : (b : Bool) → bit_of b < 256
bit_small true = lit< tt
bit_small false = lit< tt

head_are : (n : ℕ) (h : YearHead) → Bytes (head_bytes n h)
unfolding head_bytes
head_are n h = joined (le32 n) (h.months % 256 ∷ h.leap % 256 ∷ 0 ∷ 0 ∷ []) (four_are n) (four (h.months % 256) (h.leap % 256) 0 0 (rest_small h.months) (rest_small h.leap) (lit< tt) (lit< tt))

record_are : (r : MonthRow) → Bytes (record_bytes r)
unfolding record_bytes
record_are r =
    let a = le32 r.lunation in
    let b = le32 r.day in
    let c = le32 r.remainder.parts in
    joined (a ++ b ++ c) (r.length % 256 ∷ r.number % 256 ∷ bit_of r.leap ∷ 0 ∷ [])
    (joined (a ++ b) c (joined a b (four_are r.lunation) (four_are r.day)) (four_are r.remainder.parts))
    (four (r.length % 256) (r.number % 256) (bit_of r.leap) 0 (rest_small r.length) (rest_small r.number) (bit_small r.leap) (lit< tt))

records_are : (n k : ℕ) → Bytes (records n k)
unfolding records
records_are n zero = none
records_are n (suc k) = joined (records n k) (record_bytes (row_at n k)) (records_are n k) (record_are (row_at n k))

totals_are : (t : Totals) → Bytes (totals_bytes t)
unfolding totals_bytes
totals_are t =
    joined (le32 t.leaps ++ le32 t.news) (le32 t.fulls) (joined (le32 t.leaps) (le32 t.news) (four_are t.leaps) (four_are t.news)) (four_are t.fulls)

-- A BLOCK OF THE WRITER'S IS MADE OF BYTES
pub block_bytes : (n : ℕ) (t : Totals) → Bytes (block_of n t)
unfolding block_of body_of front_of
block_bytes n t =
    let h = head_bytes n (result_unwrap_or (year_head n) zero_head) in
    let r = records n (months_of n) in
    let z = zeros (16 * (13 - months_of n)) in
    joined (body_of n t) (le16 (check_of (body_of n t)))
    (joined (h ++ r ++ z ++ totals_bytes t) (zeros 282)
    (joined (h ++ r ++ z) (totals_bytes t)
    (joined (h ++ r) z (joined h r (head_are n (result_unwrap_or (year_head n) zero_head)) (records_are n (months_of n))) (zeros_are (16 * (13 - months_of n))))
    (totals_are t))
    (zeros_are 282))
    (two_are (check_of (body_of n t)))
