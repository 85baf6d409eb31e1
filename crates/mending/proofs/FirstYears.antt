-- The first year that the sound blocks imply.
-- Assumes nothing.
use mathlib.Core.Path.{◌≡◌, refl}
use mathlib.Core.Logic.{◌↔◌}
use mathlib.Core.Bool.{Bool, true, false, ◌&&◌}
use mathlib.Core.List.{List}
use Prim.Native.Nat.{ℕ, ◌+◌, ◌-◌, ◌*◌, ◌/◌, ◌%◌, ◌≤◌, ◌<◌}
use native.Mathlib.Omega.{arith}
use borrow.Author.Tests.{eq-eqb, ne_eqb}
use lib.Dec.{T, leb, eqb, le→leb, leb→le}
use Rattle.reckoning.specs.Search.{pick, between, any, all, first_from}
use Rattle.reckoning.proofs.Searches.{T_true, T_false, both_left, both_right, both_T, any_of, any_gives, first_is}
use Rattle.volumes.specs.Volume.{is_run}
use Rattle.volumes.specs.Reader.{whole_blocks, block_count}
use Rattle.volumes.proofs.Answered.{whole}
use Rattle.mending.specs.FirstYear.{sound_at, implied_first, implies_at, known}
use Rattle.mending.specs.Mended.{most_blocks, mendable}

-- what the test of a length says
pub record Length (n : ℕ) : Type 0 where
  pub some : 1 ≤ n
  pub blocks : n % 512 ≡ 0
  pub most : n / 512 ≤ most_blocks

pub length_of_lem : (n : ℕ) → T (mendable n) → Length n
unfolding mendable
length_of_lem n t =
    let w = whole n (both_left (whole_blocks n) (leb (n / 512) most_blocks) t) in
    record { some = w.0; blocks = w.1; most = leb→le (n / 512) most_blocks (both_right (whole_blocks n) (leb (n / 512) most_blocks) t) }

-- A LENGTH IS RIGHT EXACTLY WHERE IT IS THAT OF ONE TO 1,024 BLOCKS
pub mendable_exactly : (n : ℕ) → T (mendable n) ↔ ((k : ℕ) × (1 ≤ k) × (k ≤ most_blocks) × (n ≡ 512 * k))
unfolding mendable whole_blocks
mendable_exactly n = (
  λ t. let l = length_of_lem n t in (n / 512, omega (arith, l), l.most, omega (arith, l)),
  λ w.
      both_T (leb 1 n && eqb (n % 512) 0) (leb (n / 512) most_blocks)
      (both_T (leb 1 n) (eqb (n % 512) 0) (le→leb 1 n (omega (arith, w))) (rw (eq-eqb (n % 512) 0 (omega (arith, w))) tt))
      (le→leb (n / 512) most_blocks (omega (arith, w))),
)

-- what is made of the first number that passes a test, or nothing where none does
module _ (f : ℕ → Bool) (g : ℕ → ℕ) (n : ℕ) where
  pub found : (i : ℕ) → i < n → T (f i) → ((q : ℕ) → q < i → ¬ (T (f q))) → pick (any f n) (g (first_from f 0 n)) 0 ≡ g i
  found i h t none =
      rw (T_true (any f n) (any_of f n i h t), first_is f n 0 i (omega arith) (omega arith) t (λ q a b. none q b)) refl

  pub not_found : ((q : ℕ) → q < n → ¬ (T (f q))) → pick (any f n) (g (first_from f 0 n)) 0 ≡ 0
  not_found none = rw (T_false (any f n) (λ t. let k = any_gives f n t in none k.0 k.1 k.2)) refl

-- a block names its own year exactly where it implies the first
module _ (y i first : ℕ) (h : 1 ≤ first) where
  pub own_year : y ≡ first + i → eqb (y - i) first ≡ true
  own_year e = eq-eqb (y - i) first (omega arith)

  pub other_year : ¬ (y ≡ first + i) → eqb (y - i) first ≡ false
  other_year n = ne_eqb (y - i) first (λ (e : y - i ≡ first). n (omega arith))

-- two tests that must both pass, in either order
pub turned : (a b : Bool) → a && b ≡ b && a
turned true true = refl
turned true false = refl
turned false true = refl
turned false false = refl

-- A FIRST YEAR IS KNOWN where the year that the first sound block implies, or 0 where none is sound, begins a run of the round's and all sound
-- blocks imply it
pub known_by : (bytes : List ℕ) (first : ℕ) → first ≡ pick (any (sound_at bytes) (block_count bytes)) (implied_first bytes) 0 → (is_run first (first + block_count bytes - 1) && all (implies_at bytes first) (block_count bytes)) ≡ known bytes
unfolding known is_run between
known_by bytes first e = go (any (sound_at bytes) n) refl
  where
    n : ℕ
    n = block_count bytes

    go : (t : Bool) → any (sound_at bytes) n ≡ t → (is_run first (first + n - 1) && all (implies_at bytes first) n) ≡ (t && (all (implies_at bytes (implied_first bytes)) n && is_run (implied_first bytes) (implied_first bytes + n - 1)))
    go true q =
        let f : first ≡ implied_first bytes = rw q at e in
        rw f (turned (is_run (implied_first bytes) (implied_first bytes + n - 1)) (all (implies_at bytes (implied_first bytes)) n))
    go false q = let z : first ≡ 0 = rw q at e in rw z refl

pub known_first : (bytes : List ℕ) (first : ℕ) → first ≡ pick (any (sound_at bytes) (block_count bytes)) (implied_first bytes) 0 → T (known bytes) → first ≡ implied_first bytes
unfolding known
known_first bytes first e t =
    let f = implied_first bytes in
    let n : ℕ = block_count bytes in
    rw (T_true (any (sound_at bytes) n) (both_left (any (sound_at bytes) n) (all (implies_at bytes f) n && is_run f (f + n - 1)) t)) at e
