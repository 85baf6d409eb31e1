-- Blocks mended and indices noted, one after another.
-- Assumes nothing.
use mathlib.Core.Path.{◌≡◌, refl, sym, ap, ◌∙◌}
use mathlib.Core.Bool.{Bool, true, false}
use mathlib.Core.List.{List, [], ◌∷◌, ◌++◌, append_assoc, append-nil}
use Prim.Native.Nat.{ℕ, zero, suc, ◌+◌, ◌*◌, ◌≤◌, ◌<◌}
use native.Mathlib.Numerals.{add-one}
use native.Mathlib.Omega.{arith}
use lib.ListN.{length, take, drop, get_or, set, length-append, length-drop, drop_of_length-le}
use lib.Seq.{drop-cons, set_at, drop_at}
use Rattle.reckoning.specs.Search.{pick}
use Rattle.reckoning.proofs.Searches.{pick_cases}
use Rattle.blocks.specs.Bytes.{same}
use Rattle.blocks.proofs.Same.{same_eq}
use Rattle.volumes.specs.Volume.{block_at, blocks, block_in}
use Rattle.volumes.proofs.Runs.{blocks_length, as_long, one_more}
use Rattle.mending.specs.Mended.{called_for, differing, afresh}

-- a block that is called for or written afresh is what its year and the first year call for
own_or_afresh : (bytes : List ℕ) (first i : ℕ) → pick (called_for bytes first i) (block_in bytes i) (block_at first i) ≡ block_at first i
unfolding called_for
own_or_afresh bytes first i =
    pick_cases (λ (b : List ℕ). b ≡ block_at first i) (called_for bytes first i) (block_in bytes i) (block_at first i) (same_eq (block_in bytes i) (block_at first i)) (λ n. refl)

-- A MENDED VOLUME IS THE WRITER'S FOR ITS YEARS
pub afresh_is : (bytes : List ℕ) (first k : ℕ) → afresh bytes first k ≡ blocks first k
unfolding afresh blocks
afresh_is bytes first zero = refl
afresh_is bytes first (suc i) = rw (afresh_is bytes first i, own_or_afresh bytes first i)

-- one index more, or none
differing_more : (bytes : List ℕ) (first i : ℕ) (right : Bool) → right ≡ same (block_in bytes i) (block_at first i) → differing bytes first (suc i) ≡ differing bytes first i ++ pick right [] (i ∷ [])
unfolding differing called_for
differing_more bytes first i right e = ap (λ (t : Bool). differing bytes first i ++ pick t [] (i ∷ [])) (sym e)

-- at most as many as there are blocks
at_most_one : (t : Bool) (i : ℕ) → length (pick t [] (i ∷ [])) ≤ 1
at_most_one true i = omega arith
at_most_one false i = omega arith

pub differing_few : (bytes : List ℕ) (first k : ℕ) → length (differing bytes first k) ≤ k
unfolding differing
differing_few bytes first zero = omega arith
differing_few bytes first (suc i) =
    let t = same (block_in bytes i) (block_at first i) in
    omega (arith, ap length (differing_more bytes first i t refl), length-append (differing bytes first i) (pick t [] (i ∷ [])), differing_few bytes first i, at_most_one t i)

-- the list with indices at its front, and one more noted or not
noted : (d xs : List ℕ) (i : ℕ) (right : Bool) → length d < length xs → pick right (d ++ drop (length d) xs) (set (d ++ drop (length d) xs) (length d) i) ≡ (d ++ pick right [] (i ∷ [])) ++ drop (pick right (length d) (length d + 1)) xs
noted d xs i true h = rw (append-nil d)
noted d xs i false h =
    rw (drop-cons xs (length d) 0 h, set_at d (get_or xs (length d) 0) (drop (suc (length d)) xs) i (length d) refl, append_assoc d (i ∷ []) (drop (length d + 1) xs), add-one (length d))

noted_count : (d : List ℕ) (i : ℕ) (right : Bool) → pick right (length d) (length d + 1) ≡ length (d ++ pick right [] (i ∷ []))
noted_count d i true = rw (append-nil d)
noted_count d i false = sym (length-append d (i ∷ []))

-- the part that is mended next is as it was
next_part : (first i : ℕ) (xs : List ℕ) (k : ℕ) → k ≡ 512 → take k (drop (512 * i) (blocks first i ++ drop (512 * i) xs)) ≡ block_in xs i
next_part first i xs k e = rw (e, drop_at (blocks first i) (drop (512 * i) xs) (512 * i) (blocks_length first i))

-- the first i blocks are mended: how many indices are noted, the bytes, and the list
pub record SoFar (xs ys : List ℕ) (first i count : ℕ) (bytes list : List ℕ) : Type 0 where
  pub count_is : count ≡ length (differing xs first i)
  pub bytes_are : bytes ≡ blocks first i ++ drop (512 * i) xs
  pub list_is : list ≡ differing xs first i ++ drop count ys

pub at_start : (xs ys : List ℕ) (first : ℕ) → SoFar xs ys first 0 0 xs ys
unfolding differing blocks
at_start xs ys first = record { count_is = refl; bytes_are = refl; list_is = refl }

module _ (xs ys : List ℕ) (first i count : ℕ) (bytes list : List ℕ) (now : SoFar xs ys first i count bytes list) where
  pub bytes_long : 512 * i ≤ length xs → length bytes ≡ length xs
  bytes_long h = rw now.bytes_are (as_long first i xs h)

  pub list_long : i ≤ length ys → length list ≡ length ys
  list_long h =
      rw (now.list_is, now.count_is)
      (omega (arith, differing_few xs first i, length-append (differing xs first i) (drop (length (differing xs first i)) ys), length-drop (length (differing xs first i)) ys))

  -- one block more
  pub on : (k : ℕ) (right : Bool) (b : List ℕ) (c : ℕ) (p : List ℕ) → k ≡ 512 → i < length ys → right ≡ same (take k (drop (512 * i) bytes)) (block_at first i) → b ≡ block_at first i → c ≡ pick right count (count + 1) → p ≡ pick right list (set list count i) → SoFar xs ys first (i + 1) c (take (512 * i) bytes ++ (b ++ drop k (drop (512 * i) bytes))) p
  on k right b c p e h same-is b-is c-is p-is =
      let r : right ≡ same (block_in xs i) (block_at first i) = same-is ∙ rw (now.bytes_are, next_part first i xs k e) in
      let d = differing xs first i in
      let d-more : differing xs first (i + 1) ≡ d ++ pick right [] (i ∷ []) = rw (add-one i) (differing_more xs first i right r) in
      record {
        count_is = c-is ∙ rw (d-more, now.count_is) (noted_count d i right);
        bytes_are = one_more first i xs k bytes b e now.bytes_are b-is;
        list_is = p-is ∙ rw (d-more, c-is, now.list_is, now.count_is) (noted d ys i right (omega (arith, differing_few xs first i)));
      }

pub at_end : (xs ys : List ℕ) (first n count : ℕ) (bytes list : List ℕ) → SoFar xs ys first n count bytes list → length xs ≡ 512 * n → (count ≡ length (differing xs first n)) × (bytes ≡ afresh xs first n) × (list ≡ differing xs first n ++ drop count ys)
at_end xs ys first n count bytes list s h =
    (s.count_is, s.bytes_are ∙ rw (drop_of_length-le xs {i = 512 * n} (omega arith)) (append-nil (blocks first n)) ∙ sym (afresh_is xs first n), s.list_is)
