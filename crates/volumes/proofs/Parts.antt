-- The blocks of a volume's bytes.
-- Assumes nothing.
use mathlib.Core.Path.{◌≡◌, refl, ap, ◌∙◌}
use mathlib.Core.Logic.{⊎_elim}
use mathlib.Core.List.{List}
use Prim.Native.Nat.{ℕ, zero, suc, ◌+◌, ◌*◌, ◌≤◌, ◌<◌}
use native.Mathlib.Nat.{eq-or-lt_of_le, add_assoc}
use native.Mathlib.Omega.{arith}
use lib.Dec.{T, lit<}
use lib.ListN.{length, take, drop, get_or, set, length-drop, get_or-eq_default}
use lib.Seq.{drop_at, take_all, take-add, take-append-le, drop-append-le, get_or-take, get_or-drop, drop-set-add, take-set-lt}
use Rattle.reckoning.proofs.Searches.{le_or_lt}
use Rattle.totals.specs.Totals.{totals}
use Rattle.blocks.specs.Bytes.{value32}
use Rattle.blocks.specs.Check.{right_check}
use Rattle.blocks.proofs.Values.{block_right}
use Rattle.volumes.specs.Volume.{block_at, blocks, block_in}
use Rattle.volumes.proofs.Runs.{block_at_length, blocks_length}

-- the block at an index of the writer's blocks
pub block_in_lem : (first k i : ℕ) → i < k → block_in (blocks first k) i ≡ block_at first i
unfolding blocks
block_in_lem first zero i h = absurd (omega arith)
block_in_lem first (suc k) i h =
    let long = blocks_length first k in
    ⊎_elim
    (λ (e : i ≡ k). rw (e, drop_at (blocks first k) (block_at first k) (512 * k) long) (take_all 512 (block_at first k) (omega (arith, block_at_length first k))))
    (λ (l : i < k).
    rw (
      drop-append-le (512 * i) (blocks first k) (block_at first k) (omega (arith, long)),
      take-append-le 512 (drop (512 * i) (blocks first k)) (block_at first k) (omega (arith, length-drop (512 * i) (blocks first k), long)),
    )
    (block_in_lem first k i l))
    (eq-or-lt_of_le {n = i} {m = k} (omega arith))

-- bytes each of whose blocks is the writer's are the writer's
pub blocks_are : (first : ℕ) (bytes : List ℕ) (k : ℕ) → ((i : ℕ) → i < k → block_in bytes i ≡ block_at first i) → take (512 * k) bytes ≡ blocks first k
unfolding blocks
blocks_are first bytes zero each = refl
blocks_are first bytes (suc k) each =
    let on : 512 * suc k ≡ 512 * k + 512 = omega arith in
    rw (on, take-add (512 * k) 512 bytes, blocks_are first bytes k (λ i h. each i (omega arith)), each k (omega arith))

-- a byte of a block, and a field of it
pub byte_in : (bytes : List ℕ) (i k : ℕ) → k < 512 → get_or (block_in bytes i) k 0 ≡ get_or bytes (512 * i + k) 0
byte_in bytes i k h = get_or-take 512 (drop (512 * i) bytes) k 0 h ∙ get_or-drop (512 * i) bytes k 0

pub field_in : (bytes : List ℕ) (i k : ℕ) → k + 4 ≤ 512 → value32 (block_in bytes i) k ≡ value32 bytes (512 * i + k)
field_in bytes i k h =
    rw (add_assoc (512 * i) k 1, add_assoc (512 * i) k 2, add_assoc (512 * i) k 3, byte_in bytes i k (omega arith), byte_in bytes i (k + 1) (omega arith), byte_in bytes i (k + 2) (omega arith), byte_in bytes i (k + 3) (omega arith))

-- one byte altered
pub set_in : (bytes : List ℕ) (i k b : ℕ) → k < 512 → block_in (set bytes (512 * i + k) b) i ≡ set (block_in bytes i) k b
set_in bytes i k b h = ap (λ (l : List ℕ). take 512 l) (drop-set-add (512 * i) bytes k b) ∙ take-set-lt 512 (drop (512 * i) bytes) k b h

-- each of the writer's blocks has a right check
pub right_at : (first i : ℕ) → T (right_check (block_at first i))
unfolding block_at
right_at first i = block_right (first + i) (totals first (suc i))

pub small_in : (bytes : List ℕ) (i : ℕ) → length (block_in bytes i) ≡ 512 → ((k : ℕ) → get_or bytes k 0 < 256) → (k : ℕ) → get_or (block_in bytes i) k 0 < 256
small_in bytes i long small k =
    ⊎_elim
    (λ (l : 512 ≤ k). rw (get_or-eq_default (block_in bytes i) 0 {n = k} (omega arith)) (lit< tt))
    (λ (l : k < 512). rw (byte_in bytes i k l) (small (512 * i + k)))
    (le_or_lt 512 k)
