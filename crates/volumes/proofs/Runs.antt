-- Blocks one after another.
-- Assumes nothing.
use mathlib.Core.Path.{◌≡◌, refl}
use mathlib.Core.Bool.{◌&&◌}
use mathlib.Core.List.{List, ◌++◌, append_assoc}
use Prim.Native.Nat.{ℕ, zero, suc, ◌+◌, ◌-◌, ◌*◌, ◌≤◌}
use native.Mathlib.Numerals.{add-one}
use native.Mathlib.Omega.{arith}
use lib.Dec.{T, leb, le→leb, leb→le}
use lib.ListN.{length, take, drop, length-append, length-drop}
use lib.Seq.{take_at, drop_at, drop-drop, length-take-le}
use Rattle.reckoning.proofs.Searches.{between_T, between_low, between_high, both_left, both_right, both_T}
use Rattle.units.specs.Xinghe.{round_years, is_year}
use Rattle.totals.specs.Totals.{totals}
use Rattle.blocks.specs.Block.{block_of}
use Rattle.blocks.proofs.Blocks.{block_length}
use Rattle.volumes.specs.Volume.{Run, is_run, block_at, blocks}

-- a year of the round
pub year_in_lem : (n : ℕ) → 1 ≤ n → n ≤ round_years → T (is_year n)
year_in_lem n lo hi = between_T 1 n (suc round_years) lo (omega arith)

pub year_low : (n : ℕ) → T (is_year n) → 1 ≤ n
year_low n t = between_low 1 n (suc round_years) t

pub year_high : (n : ℕ) → T (is_year n) → n ≤ round_years
year_high n t = omega (arith, between_high 1 n (suc round_years) t)

module _ (first year : ℕ) where
  pub run_of : T (is_run first year) → Run first year
  unfolding is_run
  run_of t =
      let r = both_right (is_year first) (is_year year && leb first year) t in
      record {
        least = year_low first (both_left (is_year first) (is_year year && leb first year) t);
        order = leb→le first year (both_right (is_year year) (leb first year) r);
        most = year_high year (both_left (is_year year) (leb first year) r);
      }

  pub is_run_lem : Run first year → T (is_run first year)
  unfolding is_run
  is_run_lem r =
      both_T (is_year first) (is_year year && leb first year) (year_in_lem first r.least (omega (arith, r.order, r.most)))
      (both_T (is_year year) (leb first year) (year_in_lem year (omega (arith, r.least, r.order)) r.most) (le→leb first year r.order))

-- the block of a year in the volume from a first year on
pub block_of_lem : (first year : ℕ) → first ≤ year → block_of year (totals first (year + 1 - first)) ≡ block_at first (year - first)
unfolding block_at
block_of_lem first year h =
    let a : first + (year - first) ≡ year = omega arith in
    let b : suc (year - first) ≡ year + 1 - first = omega arith in
    rw (a, b)

-- a part of one block's length
pub part_length : (xs : List ℕ) (at k : ℕ) → k ≡ 512 → at + 512 ≤ length xs → length (take k (drop at xs)) ≡ 512
part_length xs at k e h = rw e (length-take-le 512 (drop at xs) (omega (arith, length-drop at xs)))

pub block_at_length : (first i : ℕ) → length (block_at first i) ≡ 512
unfolding block_at
block_at_length first i = block_length (first + i) (totals first (suc i))

pub blocks_length : (first k : ℕ) → length (blocks first k) ≡ 512 * k
unfolding blocks
blocks_length first zero = refl
blocks_length first (suc k) =
    omega (arith, length-append (blocks first k) (block_at first k), blocks_length first k, block_at_length first k)

-- the buffer with the blocks of i years at its front
module _ (first i : ℕ) (xs : List ℕ) where
  pub as_long : 512 * i ≤ length xs → length (blocks first i ++ drop (512 * i) xs) ≡ length xs
  as_long h = omega (arith, length-append (blocks first i) (drop (512 * i) xs), blocks_length first i, length-drop (512 * i) xs)

  -- one block more, in the part of the buffer from there on
  pub one_more : (k : ℕ) (f b : List ℕ) → k ≡ 512 → f ≡ blocks first i ++ drop (512 * i) xs → b ≡ block_at first i → take (512 * i) f ++ (b ++ drop k (drop (512 * i) f)) ≡ blocks first (i + 1) ++ drop (512 * (i + 1)) xs
  unfolding blocks
  one_more k f b e is block =
      let here = blocks_length first i in
      let on : 512 * i + 512 ≡ 512 * (i + 1) = omega arith in
      rw (e, is, block, take_at (blocks first i) (drop (512 * i) xs) (512 * i) here, drop_at (blocks first i) (drop (512 * i) xs) (512 * i) here, drop-drop 512 (512 * i) xs, on, ← append_assoc (blocks first i) (block_at first i) (drop (512 * (i + 1)) xs), add-one i)
