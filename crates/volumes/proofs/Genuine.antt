-- A block that is genuine is the writer's, and the reader's state goes from block to block as the answer does.
-- Assumes nothing.
use Rattle.std.specs.Prelude.{Result, Ok, Err}
use mathlib.Core.Path.{◌≡◌, refl, sym, ap, ◌∙◌}
use mathlib.Core.Bool.{Bool, true, false, ◌&&◌}
use mathlib.Core.Logic.{⊎_elim, ◌≢◌}
use mathlib.Core.List.{List}
use Prim.Native.Nat.{ℕ, zero, suc, ◌+◌, ◌-◌, ◌%◌, ◌≤◌}
use native.Mathlib.Nat.{add-zero}
use native.Mathlib.Omega.{arith}
use borrow.Author.Tests.{le-leb, lt-leb, eq-eqb, ne_eqb}
use lib.Dec.{T, leb}
use lib.ListN.{length}
use Rattle.reckoning.specs.Search.{pick, all}
use Rattle.reckoning.proofs.Searches.{T_true, T_false, decide, through, together, both_left, both_right, both_T, all_at, same_or}
use Rattle.refusal.specs.declared.Refusal.{Refusal}
use Rattle.units.specs.Xinghe.{is_year}
use Rattle.blocks.specs.Bytes.{value32, same}
use Rattle.blocks.specs.Check.{right_check}
use Rattle.blocks.proofs.Same.{same_eq, same_refl}
use Rattle.volumes.specs.Volume.{is_run, block_at, block_in}
use Rattle.volumes.specs.Reader.{whole_blocks, block_count, first_year, genuine_at, read_answer}
use Rattle.volumes.specs.Stream.{held, read_on, reader_after, read_through, ended, finished}
use Rattle.volumes.specs.declared.reader.Reader.{Reader}
use Rattle.volumes.proofs.Runs.{run_of, is_run_lem, year_in_lem, year_low, year_high}
use Rattle.volumes.proofs.Parts.{field_in, right_at}

module _ (bytes : List ℕ) where
  abbrev first : ℕ
  first = first_year bytes

  module _ (i : ℕ) where
    -- what the test of a block says
    pub genuine_right : T (genuine_at bytes i) → T (right_check (block_in bytes i))
    unfolding genuine_at
    genuine_right t = both_left (right_check (block_in bytes i)) (is_year (first + i) && same (block_in bytes i) (block_at first i)) t

    pub genuine_year : T (genuine_at bytes i) → T (is_year (first + i))
    unfolding genuine_at
    genuine_year t =
        both_left (is_year (first + i)) (same (block_in bytes i) (block_at first i))
        (both_right (right_check (block_in bytes i)) (is_year (first + i) && same (block_in bytes i) (block_at first i)) t)

    pub genuine_block : T (genuine_at bytes i) → block_in bytes i ≡ block_at first i
    unfolding genuine_at
    genuine_block t =
        same_eq (block_in bytes i) (block_at first i)
        (both_right (is_year (first + i)) (same (block_in bytes i) (block_at first i))
        (both_right (right_check (block_in bytes i)) (is_year (first + i) && same (block_in bytes i) (block_at first i)) t))

    -- A BLOCK THAT IS THE WRITER'S HAS A RIGHT CHECK: it need not be computed
    pub is_genuine : T (is_year (first + i)) → block_in bytes i ≡ block_at first i → T (genuine_at bytes i)
    unfolding genuine_at
    is_genuine y e =
        rw e
        (both_T (right_check (block_at first i)) (is_year (first + i) && same (block_at first i) (block_at first i)) (right_at first i)
        (both_T (is_year (first + i)) (same (block_at first i) (block_at first i)) y (same_refl (block_at first i))))

  first_low : T (genuine_at bytes 0) → 1 ≤ first
  first_low t = omega (arith, year_low (first + 0) (genuine_year 0 t))

  module _ (i : ℕ) where
    -- the reader's test of the next block
    next_test : T (all (genuine_at bytes) i) → (is_run first (first + i) && same (block_in bytes i) (block_at first (first + i - first))) ≡ all (genuine_at bytes) (suc i)
    next_test so_far =
        let e : first + i - first ≡ i = omega arith in
        rw e
        (together (is_run first (first + i) && same (block_in bytes i) (block_at first i)) (all (genuine_at bytes) (suc i))
        (λ t.
        let r = run_of first (first + i) (both_left (is_run first (first + i)) (same (block_in bytes i) (block_at first i)) t) in
        both_T (genuine_at bytes i) (all (genuine_at bytes) i)
        (is_genuine i (year_in_lem (first + i) (omega (arith, r.least)) r.most) (same_eq (block_in bytes i) (block_at first i) (both_right (is_run first (first + i)) (same (block_in bytes i) (block_at first i)) t)))
        so_far)
        (λ t.
        let here = all_at (genuine_at bytes) (suc i) t i (omega arith) in
        let start = all_at (genuine_at bytes) (suc i) t 0 (omega arith) in
        both_T (is_run first (first + i)) (same (block_in bytes i) (block_at first i))
        (is_run_lem first (first + i) (record { least = first_low start; order = omega arith; most = year_high (first + i) (genuine_year i here) }))
        (rw (genuine_block i here) (same_refl (block_at first i)))))

  -- THE STATE AFTER ONE BLOCK MORE
  pub reads_on : (k : ℕ) → read_on (reader_after bytes k) (block_in bytes k) ≡ reader_after bytes (suc k)
  unfolding read_on reader_after held
  reads_on zero =
      let e : value32 (block_in bytes 0) 0 ≡ first = field_in bytes 0 0 (omega arith) in
      let z : first + 0 ≡ first = add-zero first in
      rw (e, ← (next_test 0 tt), z)
  reads_on (suc k) =
      ⊎_elim
      (λ (t : T (all (genuine_at bytes) (suc k))).
      let e : first + k + 1 ≡ first + suc k = omega arith in
      rw (T_true (all (genuine_at bytes) (suc k)) t, e, next_test (suc k) t, T_true (all (genuine_at bytes) (suc k)) t))
      (λ (n : ¬ (T (all (genuine_at bytes) (suc k)))).
      rw (T_false (all (genuine_at bytes) (suc (suc k))) (λ t. n (both_right (genuine_at bytes (suc k)) (all (genuine_at bytes) (suc k)) t)), T_false (all (genuine_at bytes) (suc k)) n))
      (decide (all (genuine_at bytes) (suc k)))

  abbrev volume_refused : Result (ℕ × ℕ) Refusal
  volume_refused = Err Refusal.Volume

  -- THE ANSWER FROM THE STATE AFTER THE LAST WHOLE BLOCK, and from how many bytes come after it
  pub reads_all : read_answer bytes ≡ finished (reader_after bytes (block_count bytes)) (length bytes % 512)
  unfolding read_answer finished whole_blocks reader_after
  reads_all =
      ⊎_elim whole
      (λ (n : length bytes % 512 ≢ 0). rw (ne_eqb (length bytes % 512) 0 n) (cut (leb 1 (length bytes)) (pick (all (genuine_at bytes) (block_count bytes)) (Ok (first, (first + block_count bytes - 1))) (Err Refusal.Block))))
      (same_or (length bytes % 512) 0)
    where
      cut : (b : Bool) (x : Result (ℕ × ℕ) Refusal) → pick (b && false) x volume_refused ≡ volume_refused
      cut true x = refl
      cut false x = refl

      go : (k : ℕ) → k ≡ block_count bytes → length bytes % 512 ≡ 0 → pick (leb 1 (length bytes) && true) (pick (all (genuine_at bytes) k) (Ok (first, (first + k - 1))) (Err Refusal.Block)) volume_refused ≡ ended (reader_after bytes k)
      go zero e r = rw (lt-leb 1 (length bytes) (omega arith))
      go (suc k) e r =
          let last : first + suc k - 1 ≡ first + k = omega arith in
          rw (le-leb 1 (length bytes) (omega arith), last) (sym (through ended (all (genuine_at bytes) (suc k)) (Reader.Right first (first + k)) Reader.Wrong))

      whole : length bytes % 512 ≡ 0 → read_answer bytes ≡ finished (reader_after bytes (block_count bytes)) (length bytes % 512)
      whole r = rw (eq-eqb (length bytes % 512) 0 r) (go (block_count bytes) refl r)

  through_is : (k : ℕ) → read_through bytes k ≡ reader_after bytes k
  unfolding read_through reader_after
  through_is zero = refl
  through_is (suc k) = ap (λ (s : Reader). read_on s (block_in bytes k)) (through_is k) ∙ reads_on k

  -- READ BLOCK BY BLOCK, A VOLUME IS ANSWERED AS IT IS IN ONE PIECE
  pub streamed : finished (read_through bytes (block_count bytes)) (length bytes % 512) ≡ read_answer bytes
  streamed = ap (λ (s : Reader). finished s (length bytes % 512)) (through_is (block_count bytes)) ∙ sym reads_all
