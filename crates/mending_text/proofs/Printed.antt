-- What the mending program prints, and how much of its input it needs.
-- Assumes nothing.
use Rattle.std.specs.Prelude.{Result, Ok, Err}
use mathlib.Core.Path.{◌≡◌, refl, sym, ap, ◌∙◌}
use mathlib.Core.Logic.{⊎_elim}
use mathlib.Core.Bool.{false}
use mathlib.Core.List.{List, [], ◌∷◌, ◌++◌, append-nil}
use Prim.Native.Nat.{ℕ, ◌+◌, ◌*◌, ◌≤◌, ◌<◌}
use native.Mathlib.Omega.{arith}
use lib.ListN.{length, take, drop, length-take}
use lib.Seq.{take_all, take_at, length-take-le}
use Rattle.reckoning.proofs.Searches.{T_false, le_or_lt}
use Rattle.refusal.specs.declared.Refusal.{Refusal}
use Rattle.writing.specs.Written.{after_text, texts}
use Rattle.year_text.specs.Decimal.{decimal_up_to}
use Rattle.year_text.specs.Text.{refusal_line}
use Rattle.volumes.specs.Reader.{block_count, read_answer}
use Rattle.mending.specs.Mended.{most_blocks, mendable, damaged, mend_answer, volume_after, after_mend}
use Rattle.mending.proofs.FirstYears.{length_of_lem}
use Rattle.mending.proofs.Answered.{noted}
use Rattle.mending.proofs.Kept.{none_damaged, kept}
use Rattle.mending.proofs.GivenBack.{Scratched, told, given_back}
use Rattle.mending_text.specs.Report.{number_line, lines_for, volume_for, printed_lines, printed_volume, printed, report_of}

-- the volume that is printed stands at the front of the one that was mended
volume_front : (bytes : List ℕ) → take (length (printed_volume bytes)) (after_mend bytes) ≡ printed_volume bytes
unfolding volume_for volume_after
volume_front bytes = go (mend_answer bytes)
  where
    go : (a : Result ℕ Refusal) → take (length (volume_for a bytes)) (volume_after a bytes) ≡ volume_for a bytes
    go (Ok k) = take_all (length (volume_for (Ok k) bytes)) (volume_for (Ok k) bytes) (omega arith)
    go (Err e) = refl

pub volume_fits : (bytes : List ℕ) → length (printed_volume bytes) ≤ length (after_mend bytes)
volume_fits bytes = omega (arith, length-take (length (printed_volume bytes)) (after_mend bytes), ap length (volume_front bytes))

-- THE BYTES OF THE LINES' BUFFER, AND THEN OF THE VOLUME'S, that a report counts are what is printed
pub printed_is : (bytes lent : List ℕ) → take (report_of bytes).text (after_text (printed_lines bytes) lent) ++ take (report_of bytes).volume (after_mend bytes) ≡ printed bytes
printed_is bytes lent = rw (take_at (printed_lines bytes) (drop (length (printed_lines bytes)) lent) (length (printed_lines bytes)) refl, volume_front bytes) refl

-- more bytes than 1,024 blocks have are refused, whatever they are
past_most : (bytes : List ℕ) → 512 * most_blocks < length bytes → printed bytes ≡ refusal_line Refusal.Volume
unfolding mend_answer lines_for volume_for
past_most bytes h =
    let none : mendable (length bytes) ≡ false = T_false (mendable (length bytes)) (λ t. omega (arith, length_of_lem (length bytes) t)) in
    rw none (append-nil (refusal_line Refusal.Volume))

-- 524,289 BYTES OF AN INPUT ARE ENOUGH: for them the same is printed as for the whole input
pub enough : (input : List ℕ) → printed (take (512 * most_blocks + 1) input) ≡ printed input
enough input =
    ⊎_elim
    (λ (h : length input ≤ 512 * most_blocks + 1). rw (take_all (512 * most_blocks + 1) input h) refl)
    (λ (h : 512 * most_blocks + 1 < length input).
    past_most (take (512 * most_blocks + 1) input) (omega (arith, length-take-le (512 * most_blocks + 1) input (omega arith))) ∙ sym (past_most input (omega arith)))
    (le_or_lt (length input) (512 * most_blocks + 1))

-- A REFUSAL IS PRINTED ALONE
pub refusal_alone : (bytes : List ℕ) (e : Refusal) → mend_answer bytes ≡ Err e → printed bytes ≡ refusal_line e
unfolding lines_for volume_for
refusal_alone bytes e q = rw q (append-nil (refusal_line e))

-- a mended volume comes after the indices of its damaged blocks and their number
mended_printed : (bytes : List ℕ) (k : ℕ) → mend_answer bytes ≡ Ok k → printed bytes ≡ (texts number_line (damaged bytes) ++ number_line k) ++ after_mend bytes
unfolding lines_for volume_for volume_after
mended_printed bytes k q = rw q refl

no_length : (xs : List ℕ) → length xs ≡ 0 → xs ≡ []
no_length [] e = refl
no_length (x ∷ xs) e = absurd (omega arith)

-- OF A VOLUME THAT THE READER ACCEPTS, of at most 1,024 blocks, `0`, a newline and the same bytes are printed
pub kept_printed : (bytes : List ℕ) (first last : ℕ) → read_answer bytes ≡ Ok (first, last) → block_count bytes ≤ most_blocks → printed bytes ≡ 48 ∷ 10 ∷ bytes
unfolding texts decimal_up_to
kept_printed bytes first last read most =
    let none = none_damaged bytes first last read most in
    mended_printed bytes 0 none ∙ rw (no_length (damaged bytes) (noted bytes [] 0 none).count, kept bytes first last read most) refl

-- OF ONE THAT CAME BACK SCRATCHED, with at least one block whole and no damaged one sound: the indices of the damaged blocks, ascending and each once,
-- their number, and the volume as it was
pub back_printed : (volume back : List ℕ) (first last : ℕ) (read : read_answer volume ≡ Ok (first, last)) (most : block_count volume ≤ most_blocks) (s : Scratched volume back) → (let t = told volume back first last read most s in printed back ≡ (texts number_line t.indices ++ number_line (length t.indices)) ++ volume)
back_printed volume back first last read most s =
    let t = told volume back first last read most s in
    let k : ℕ = length t.indices in
    let these : damaged back ≡ t.indices =
    sym (noted back [] k t.number).front ∙ ap (take k) (t.noted []) ∙ take_at t.indices (drop k []) k refl in
    mended_printed back k t.number ∙ rw (these, given_back volume back first last read most s) refl
