-- Reading the fields of a block back.
-- Assumes nothing.
use Rattle.std.specs.Result.{result_unwrap_or}
use mathlib.Core.Path.{◌≡◌, sym, ap, ◌∙◌}
use mathlib.Core.List.{List, [], ◌++◌, append_assoc}
use Prim.Native.Nat.{ℕ, ◌+◌, ◌-◌, ◌*◌, ◌/◌, ◌%◌, ◌<◌}
use native.Mathlib.Nat.{div-add-mod', add_assoc, add-zero}
use native.Mathlib.Omega.{arith}
use borrow.Author.Tests.{eq-eqb}
use lib.Dec.{T}
use lib.ListN.{length, take}
use lib.Seq.{get_or-append-add, take_at}
use Rattle.calendar.specs.Heads.{year_head}
use Rattle.calendar.specs.Answers.{zero_head}
use Rattle.totals.specs.Totals.{months_of}
use Rattle.totals.specs.declared.Totals.{Totals}
use Rattle.blocks.specs.Bytes.{le32, le16, zeros, value32, value16}
use Rattle.blocks.specs.Check.{check_of, right_check}
use Rattle.blocks.specs.Block.{head_bytes, records, totals_bytes, front_of, body_of, block_of, totals_in}
use Rattle.blocks.proofs.Blocks.{body_length, before_totals}

low : (x : ℕ) → x % 256 + 256 * (x / 256 % 256) ≡ x % 65536
low x = omega arith

high : (x : ℕ) → x / 16777216 ≡ x / 65536 / 256
high x = omega arith

upper : (q : ℕ) → q < 65536 → q % 256 + 256 * (q / 256 % 256) ≡ q
upper q h = omega arith

-- a number of 32 bits from its bytes
pub value_le32 : (x : ℕ) (rest : List ℕ) → x < 4294967296 → value32 (le32 x ++ rest) 0 ≡ x
value_le32 x rest h =
    let q : x / 65536 < 65536 = omega arith in
    omega (arith, low x, ap (λ (n : ℕ). n % 256) (high x), upper (x / 65536) q, div-add-mod' x 65536)

-- past a text, the fields are those of what follows it
pub past32 : (xs ys : List ℕ) (n at : ℕ) → length xs ≡ n → value32 (xs ++ ys) (n + at) ≡ value32 ys at
past32 xs ys n at e =
    rw (← e, add_assoc (length xs) at 1, add_assoc (length xs) at 2, add_assoc (length xs) at 3, get_or-append-add xs ys at 0, get_or-append-add xs ys (at + 1) 0, get_or-append-add xs ys (at + 2) 0, get_or-append-add xs ys (at + 3) 0)

past16 : (xs ys : List ℕ) (n : ℕ) → length xs ≡ n → value16 (xs ++ ys) n ≡ value16 ys 0
past16 xs ys n e = rw (← e) (omega (arith, rw (add-zero (length xs)) at (get_or-append-add xs ys 0 0), get_or-append-add xs ys 1 0))

-- A BLOCK OF THE WRITER'S HAS A RIGHT CHECK
pub checked : (y : ℕ) (t : Totals) → value16 (block_of y t) 510 ≡ check_of (take 510 (block_of y t))
unfolding block_of
checked y t =
    let body = body_of y t in
    let long = body_length y t in
    past16 body (le16 (check_of body)) 510 long ∙ upper (check_of body) (omega arith) ∙ sym (ap check_of (take_at body (le16 (check_of body)) 510 long))

pub block_right : (y : ℕ) (t : Totals) → T (right_check (block_of y t))
unfolding right_check
block_right y t = rw (eq-eqb (check_of (take 510 (block_of y t))) (value16 (block_of y t) 510) (sym (checked y t))) tt

pub year_of_lem : (y : ℕ) (t : Totals) → y < 4294967296 → value32 (block_of y t) 0 ≡ y
unfolding block_of body_of front_of head_bytes
year_of_lem y t h = value_le32 y [] h

-- the totals
module _ (y : ℕ) (t : Totals) where
  from_totals : (at : ℕ) → value32 (block_of y t) (216 + at) ≡ value32 (totals_bytes t ++ (zeros 282 ++ le16 (check_of (body_of y t)))) at
  unfolding block_of body_of front_of
  from_totals at =
      let p = head_bytes y (result_unwrap_or (year_head y) zero_head) ++ records y (months_of y) ++ zeros (16 * (13 - months_of y)) in
      let c = le16 (check_of (body_of y t)) in
      rw (append_assoc (p ++ totals_bytes t) (zeros 282) c, append_assoc p (totals_bytes t) (zeros 282 ++ c))
      (past32 p (totals_bytes t ++ (zeros 282 ++ c)) 216 at (before_totals y))

  pub leaps_of : t.leaps < 4294967296 → value32 (block_of y t) 216 ≡ t.leaps
  unfolding totals_bytes
  leaps_of h = from_totals 0 ∙ value_le32 t.leaps [] h

  pub news_of : t.news < 4294967296 → value32 (block_of y t) 220 ≡ t.news
  unfolding totals_bytes
  news_of h = from_totals 4 ∙ value_le32 t.news [] h

  pub fulls_of : t.fulls < 4294967296 → value32 (block_of y t) 224 ≡ t.fulls
  unfolding totals_bytes
  fulls_of h = from_totals 8 ∙ value_le32 t.fulls [] h

  -- THE TOTALS READ BACK are those that were written, where each is below 2^32
  pub totals_back : t.leaps < 4294967296 → t.news < 4294967296 → t.fulls < 4294967296 → totals_in (block_of y t) ≡ t
  unfolding totals_in
  totals_back l n f = rw (leaps_of l, news_of n, fulls_of f)
