-- The writer and the reader undo each other, and the reader accepts the writer's volumes alone.
-- Assumes nothing.
use Rattle.std.specs.Prelude.{Ok}
use mathlib.Core.Path.{◌≡◌, sym, ap, ◌∙◌}
use mathlib.Core.Logic.{◌↔◌}
use mathlib.Core.List.{List, ◌++◌}
use Prim.Native.Nat.{ℕ, ◌+◌, ◌-◌, ◌*◌, ◌%◌, ◌≤◌, ◌<◌}
use native.Mathlib.Nat.{add-zero}
use native.Mathlib.Omega.{arith}
use borrow.Author.Tests.{le-leb, eq-eqb}
use lib.Dec.{T}
use lib.ListN.{length, take, drop}
use lib.Seq.{take_at}
use Rattle.reckoning.specs.Search.{all}
use Rattle.reckoning.proofs.Searches.{T_true, all_of}
use Rattle.totals.specs.Totals.{totals}
use Rattle.blocks.specs.Bytes.{value32}
use Rattle.blocks.proofs.Values.{year_of_lem}
use Rattle.volumes.specs.Volume.{Run, block_at, blocks, volume_of}
use Rattle.volumes.specs.Writer.{write_answer, buffer_after, after_write}
use Rattle.volumes.specs.Reader.{whole_blocks, block_count, first_year, genuine_at, read_answer}
use Rattle.volumes.proofs.Runs.{year_in_lem, blocks_length}
use Rattle.volumes.proofs.Parts.{block_in_lem, field_in}
use Rattle.volumes.proofs.Genuine.{is_genuine}
use Rattle.volumes.proofs.Answered.{written_of, writes, accepted}

-- the first four bytes of blocks name their first year
names_first : (first k : ℕ) → 1 ≤ k → first < 4294967296 → first_year (blocks first k) ≡ first
unfolding block_at
names_first first k h small =
    sym (field_in (blocks first k) 0 0 (omega arith)) ∙ ap (λ (l : List ℕ). value32 l 0) (block_in_lem first k 0 h)
    ∙ rw (add-zero first) (year_of_lem first (totals first 1) small)

module _ (first last : ℕ) (r : Run first last) where
  abbrev volume : List ℕ
  volume = volume_of first last

  abbrev years : ℕ
  years = last + 1 - first

  long : length volume ≡ 512 * years
  long = blocks_length first years

  counted : block_count volume ≡ years
  counted = omega (arith, long)

  named : first_year volume ≡ first
  named = names_first first years (omega (arith, r.order)) (omega (arith, r.order, r.most))

  each : (i : ℕ) → i < years → T (genuine_at volume i)
  each i h =
      is_genuine volume i (rw named (year_in_lem (first + i) (omega (arith, r.least)) (omega (arith, r.most, h)))) (rw named (block_in_lem first years i h))

  -- THE READER ACCEPTS EVERY VOLUME of the writer's, and answers its years
  pub read_volume : read_answer volume ≡ Ok (first, last)
  unfolding read_answer whole_blocks
  read_volume =
      let z : first + years - 1 ≡ last = omega (arith, r.order) in
      rw (
        le-leb 1 (length volume) (omega (arith, long, r.order)),
        eq-eqb (length volume % 512) 0 (omega (arith, long)),
        counted,
        T_true (all (genuine_at volume) years) (all_of (genuine_at volume) years each),
        named,
        z,
      )

-- AND NO OTHER BYTES: it answers two years exactly where they are a run of the round's and the bytes are the writer's for them
pub reads_exactly : (bytes : List ℕ) (first last : ℕ) → (read_answer bytes ≡ Ok (first, last)) ↔ (Run first last × (bytes ≡ volume_of first last))
reads_exactly bytes first last =
    (λ e. let a = accepted bytes first last e in (a.run, a.is), λ w. ap read_answer w.1 ∙ read_volume first last w.0)

-- READING WHAT WAS WRITTEN gives the two years back
pub read_write : (first last n : ℕ) (buffer : List ℕ) → write_answer first last (length buffer) ≡ Ok n → read_answer (take n (after_write first last buffer)) ≡ Ok (first, last)
unfolding buffer_after
read_write first last n buffer e =
    let s = written_of first last (length buffer) n e in
    rw (e, take_at (volume_of first last) (drop n buffer) n (blocks_length first (last + 1 - first) ∙ sym s.bytes)) (read_volume first last s.run)

-- WRITING WHAT WAS READ gives the volume back, byte for byte, wherever there is room for it
pub write_read : (bytes : List ℕ) (first last : ℕ) (buffer : List ℕ) → read_answer bytes ≡ Ok (first, last) → length bytes ≤ length buffer → (write_answer first last (length buffer) ≡ Ok (length bytes)) × (after_write first last buffer ≡ bytes ++ drop (length bytes) buffer)
unfolding buffer_after
write_read bytes first last buffer e room =
    let a = accepted bytes first last e in
    let n : length bytes ≡ 512 * (last + 1 - first) = ap length a.is ∙ blocks_length first (last + 1 - first) in
    let w : write_answer first last (length buffer) ≡ Ok (length bytes) = writes first last (length buffer) a.run (omega (arith, n)) ∙ ap Ok (sym n) in
    (w, rw (w, ← a.is))
