-- What the writer's and the reader's answers say.
-- Assumes nothing.
use Rattle.std.specs.Prelude.{Result, Ok, Err}
use mathlib.Core.Path.{◌≡◌, refl, sym, ap, ◌∙◌}
use mathlib.Core.Bool.{Bool, true, false, ◌&&◌}
use mathlib.Core.List.{List}
use Prim.Native.Nat.{ℕ, ◌+◌, ◌-◌, ◌*◌, ◌%◌, ◌≤◌, ◌<◌}
use native.Mathlib.Omega.{arith}
use borrow.Author.Tests.{le-leb}
use lib.Dec.{T, leb, eqb, leb→le, eqb→eq}
use lib.ListN.{length, drop, length-append, length-drop}
use lib.Seq.{take_all}
use Rattle.reckoning.specs.Search.{pick, all}
use Rattle.reckoning.proofs.Searches.{T_true, both_left, both_right, all_at}
use Rattle.refusal.specs.declared.Refusal.{Refusal}
use Rattle.units.specs.Xinghe.{is_year}
use Rattle.volumes.specs.Volume.{Run, volume_of}
use Rattle.volumes.specs.Writer.{span_answer, write_for, write_answer, buffer_after, after_write}
use Rattle.volumes.specs.Reader.{whole_blocks, block_count, first_year, genuine_at, read_answer}
use Rattle.volumes.proofs.Runs.{year_in_lem, year_low, year_high, blocks_length}
use Rattle.volumes.proofs.Parts.{blocks_are}
use Rattle.volumes.proofs.Genuine.{genuine_year, genuine_block}

-- a span is answered with its years
span_tests : (p q : Bool) (m k : ℕ) → pick p (pick q (Ok m) (Err Refusal.Span)) (Err Refusal.Year) ≡ Ok k → (T p) × (T q) × (m ≡ k)
span_tests true true m k e = (tt, tt, cc)
span_tests true false m k e = let z : ◌≡◌ {A = ℕ} 0 1 = cc in absurd (omega arith)
span_tests false q m k e = let z : ◌≡◌ {A = ℕ} 0 1 = cc in absurd (omega arith)

pub span_of : (first last k : ℕ) → span_answer first last ≡ Ok k → Run first last × (k ≡ last + 1 - first)
unfolding span_answer
span_of first last k e =
    let t = span_tests (is_year first && is_year last) (leb first last) (last + 1 - first) k e in (
      record {
        least = year_low first (both_left (is_year first) (is_year last) t.0);
        order = leb→le first last t.1;
        most = year_high last (both_right (is_year first) (is_year last) t.0);
      },
      sym t.2,
    )

-- a volume is written where a span's blocks have room
pub record Spanned (first last room n : ℕ) : Type 0 where
  pub run : Run first last
  pub bytes : n ≡ 512 * (last + 1 - first)
  pub fits : n ≤ room

room_test : (b : Bool) (m n : ℕ) → pick b (Ok m) (Err Refusal.Room) ≡ Ok n → (T b) × (n ≡ m)
room_test true m n e = (tt, cc)
room_test false m n e = let z : ◌≡◌ {A = ℕ} 0 1 = cc in absurd (omega arith)

module _ (first last room : ℕ) where
  pub written_of : (n : ℕ) → write_answer first last room ≡ Ok n → Spanned first last room n
  unfolding write_for
  written_of n e = go (span_answer first last) refl e
    where
      go : (a : Result ℕ Refusal) → a ≡ span_answer first last → write_for a room ≡ Ok n → Spanned first last room n
      go (Ok k) q e =
          let t = room_test (leb (512 * k) room) (512 * k) n e in
          let s = span_of first last k (sym q) in
          record { run = s.0; bytes = omega (arith, t.1, s.1); fits = omega (arith, t.1, leb→le (512 * k) room t.0) }
      go (Err x) q e = let z : ◌≡◌ {A = ℕ} 0 1 = cc in absurd (omega arith)

  pub writes : Run first last → 512 * (last + 1 - first) ≤ room → write_answer first last room ≡ Ok (512 * (last + 1 - first))
  unfolding write_for span_answer
  writes r h =
      rw (T_true (is_year first) (year_in_lem first r.least (omega (arith, r.order, r.most))), T_true (is_year last) (year_in_lem last (omega (arith, r.least, r.order)) r.most), le-leb first last r.order, le-leb (512 * (last + 1 - first)) room h)

-- what the test of a volume's length says
pub whole : (n : ℕ) → T (whole_blocks n) → (1 ≤ n) × (n % 512 ≡ 0)
unfolding whole_blocks
whole n t = (leb→le 1 n (both_left (leb 1 n) (eqb (n % 512) 0) t), eqb→eq (n % 512) 0 (both_right (leb 1 n) (eqb (n % 512) 0) t))

read_tests : (p q : Bool) (a z b y : ℕ) → pick {A = Result (ℕ × ℕ) Refusal} p (pick q (Ok (a, z)) (Err Refusal.Block)) (Err Refusal.Volume) ≡ Ok (b, y) → (T p) × (T q) × (a ≡ b) × (z ≡ y)
read_tests true true a z b y e =
    let both : ◌≡◌ {A = ℕ × ℕ} (a, z) (b, y) = cc in
    (tt, tt, ap (λ (years : ℕ × ℕ). years.0) both, ap (λ (years : ℕ × ℕ). years.1) both)
read_tests true false a z b y e = let w : ◌≡◌ {A = ℕ} 0 1 = cc in absurd (omega arith)
read_tests false q a z b y e = let w : ◌≡◌ {A = ℕ} 0 1 = cc in absurd (omega arith)

-- an accepted volume is the writer's for its years
pub record Accepted (bytes : List ℕ) (first last : ℕ) : Type 0 where
  pub whole : T (whole_blocks (length bytes))
  pub named : first_year bytes ≡ first
  pub count : block_count bytes ≡ last + 1 - first
  pub run : Run first last
  pub is : bytes ≡ volume_of first last

pub accepted : (bytes : List ℕ) (first last : ℕ) → read_answer bytes ≡ Ok (first, last) → Accepted bytes first last
unfolding read_answer
accepted bytes first last e =
    let f : ℕ = first_year bytes in
    let k : ℕ = block_count bytes in
    let t = read_tests (whole_blocks (length bytes)) (all (genuine_at bytes) k) f (f + k - 1) first last e in
    let w = whole (length bytes) t.0 in
    let some : 1 ≤ k = omega (arith, w) in
    let each : (i : ℕ) → i < k → T (genuine_at bytes i) = all_at (genuine_at bytes) k t.1 in
    let low = year_low (f + 0) (genuine_year bytes 0 (each 0 some)) in
    let high = year_high (f + (k - 1)) (genuine_year bytes (k - 1) (each (k - 1) (omega arith))) in
    let long : 512 * k ≡ length bytes = omega (arith, w) in
    let years : last + 1 - first ≡ k = omega (arith, t.2, t.3) in
    record {
      whole = t.0;
      named = t.2;
      count = sym years;
      run = record { least = omega (arith, low, t.2); order = omega (arith, t.2, t.3); most = omega (arith, high, t.3) };
      is = rw (years, ← t.2) (sym (take_all (512 * k) bytes (omega (arith, long))) ∙ blocks_are f bytes k (λ i h. genuine_block bytes i (each i h)));
    }

-- THE BUFFER STAYS AS LONG AS IT WAS
pub after_length : (first last : ℕ) (buffer : List ℕ) → length (after_write first last buffer) ≡ length buffer
unfolding buffer_after
after_length first last buffer = go (write_answer first last (length buffer)) refl
  where
    go : (a : Result ℕ Refusal) → a ≡ write_answer first last (length buffer) → length (buffer_after a first last buffer) ≡ length buffer
    go (Ok n) q =
        let s = written_of first last (length buffer) n (sym q) in
        omega (arith, length-append (volume_of first last) (drop n buffer), blocks_length first (last + 1 - first), length-drop n buffer, s.bytes, s.fits)
    go (Err e) q = refl
