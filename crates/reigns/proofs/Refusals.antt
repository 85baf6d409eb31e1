-- The numbers of the answer, and what is answered though the reader accepts it not.
-- Assumes nothing.
use Rattle.std.specs.Prelude.{Ok, Err}
use Rattle.refusal.specs.Numbers.{answer_number}
use mathlib.Core.Path.{◌≡◌, refl, ◌∙◌}
use mathlib.Core.Bool.{Bool, true, false, ◌&&◌}
use mathlib.Core.Logic.{⊎_elim}
use mathlib.Core.List.{List, ◌++◌}
use Prim.Native.Nat.{ℕ, ◌+◌, ◌-◌}
use native.Mathlib.Omega.{arith}
use lib.Dec.{T, eqb}
use lib.ListN.{length}
use Rattle.reckoning.specs.Search.{pick}
use Rattle.reckoning.proofs.Searches.{T_true, T_false, decide}
use Rattle.refusal.specs.declared.Refusal.{Refusal}
use Rattle.blocks.specs.Bytes.{le32, le16, zeros}
use Rattle.blocks.specs.Check.{weighted, right_check}
use Rattle.blocks.specs.Block.{totals_in}
use Rattle.volumes.specs.Reader.{whole_blocks, first_year, read_answer}
use Rattle.volumes.proofs.Answered.{accepted}
use Rattle.reigns.specs.Marked.{end_year, block_of_year, in_volume, none_below, from_last, from_both, marked_answer, marked_moons}
use Rattle.reigns.proofs.Spans.{inside}
use Rattle.reigns.proofs.Counted.{never_refused}

module _ (bytes : List ℕ) (from to : ℕ) where
  abbrev before : List ℕ
  before = block_of_year bytes (from - 1)

  abbrev last : List ℕ
  last = block_of_year bytes to

  -- a right check of the last year's block; unless the span starts the volume, of the one before the span too, and no later total below the earlier
  abbrev tells : Bool
  tells = pick (eqb from (first_year bytes)) (right_check last) (right_check before && (right_check last && none_below (totals_in before) (totals_in last)))

  -- THE NUMBERS: 11 where the bytes are no whole number of blocks or none, then 2 for years not in the volume or in the wrong order, then 12 for what
  -- the blocks hold
  pub marked_numbers : answer_number (marked_answer bytes from to) ≡ pick (whole_blocks (length bytes)) (pick (in_volume (first_year bytes) (end_year bytes) from to) (pick tells 0 12) 2) 11
  unfolding marked_answer from_last from_both
  marked_numbers =
      go (whole_blocks (length bytes)) (in_volume (first_year bytes) (end_year bytes) from to) (eqb from (first_year bytes)) (right_check last)
      (right_check before && (right_check last && none_below (totals_in before) (totals_in last))) (totals_in last).news (totals_in last).fulls
      ((totals_in last).news - (totals_in before).news) ((totals_in last).fulls - (totals_in before).fulls)
    where
      go : (w y s l b : Bool) (p q r t : ℕ) → answer_number {T = ℕ × ℕ} (pick w (pick y (pick s (pick l (Ok (p, q)) (Err Refusal.Block)) (pick b (Ok (r, t)) (Err Refusal.Block))) (Err Refusal.Span)) (Err Refusal.Volume)) ≡ pick w (pick y (pick (pick s l b) 0 12) 2) 11
      go true true true true b p q r t = refl
      go true true true false b p q r t = refl
      go true true false l true p q r t = refl
      go true true false l false p q r t = refl
      go true false s l b p q r t = refl
      go false y s l b p q r t = refl

-- REFUSED, BOTH COUNTS ARE ZERO
pub marked_zero : (e : Refusal) → marked_moons (Err e) ≡ zeros 2
marked_zero e = refl

-- OF A VOLUME THAT THE READER ACCEPTS every span inside is answered, and every other is 2
pub accepted_numbers : (bytes : List ℕ) (first last from to : ℕ) → read_answer bytes ≡ Ok (first, last) → answer_number (marked_answer bytes from to) ≡ pick (in_volume first (last + 1) from to) 0 2
accepted_numbers bytes first last from to read =
    let a = accepted bytes first last read in
    let end : first + (last + 1 - first) ≡ last + 1 = omega (arith, a.run.order) in
    let test = in_volume first (last + 1) from to in
    ⊎_elim
    (λ (t : T test).
    let i = inside first (last + 1) from to t in
    rw (T_true test t) (never_refused bytes first last from to read i.after i.order (omega (arith, i.before))))
    (λ (n : ¬ (T test)).
    marked_numbers bytes from to ∙ rw (T_true (whole_blocks (length bytes)) a.whole, a.named, a.count, end, T_false test n))
    (decide test)

-- 512 ZEROS ASKED FOR THE YEAR 0 ARE ANSWERED, with none and none: the first four bytes are taken as they are, and the check is right
pub zeros_answered : marked_answer (zeros 512) 0 0 ≡ Ok (0, 0)
unfolding marked_answer whole_blocks in_volume from_last right_check weighted totals_in
zeros_answered = refl

-- a volume of two blocks that names the last year of four bytes, with totals 1, 2, 3 and then 1, 5, 4
abbrev highest : List ℕ
highest =
    le32 4294967295 ++ zeros 212 ++ le32 1 ++ le32 2 ++ le32 3 ++ zeros 282 ++ le16 3884
    ++ (zeros 216 ++ le32 1 ++ le32 5 ++ le32 4 ++ zeros 282 ++ le16 2222)

-- YEARS ARE WHOLE NUMBERS: the year after the last of four bytes is a year like others
pub past_four_bytes : (marked_answer highest 4294967296 4294967296 ≡ Ok (3, 1)) × (marked_answer highest 4294967295 4294967296 ≡ Ok (5, 4))
unfolding marked_answer whole_blocks in_volume none_below from_last from_both right_check weighted totals_in
past_four_bytes = (refl, refl)

-- and the last year of eight bytes is past a volume of one block
pub past_eight_bytes : marked_answer (zeros 512) 4294967296 18446744073709551615 ≡ Err Refusal.Span
unfolding marked_answer whole_blocks in_volume
past_eight_bytes = refl
