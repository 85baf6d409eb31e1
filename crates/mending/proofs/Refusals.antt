-- The numbers of mending, and what is refused.
-- Assumes nothing.
use Rattle.std.specs.Prelude.{Result, Ok, Err}
use Rattle.refusal.specs.Numbers.{answer_number}
use Rattle.std.specs.Result.{result_unwrap_or}
use mathlib.Core.Path.{◌≡◌, refl, sym, ap, ◌∙◌}
use mathlib.Core.Bool.{Bool, true, false}
use mathlib.Core.List.{List}
use Prim.Native.Nat.{ℕ, ◌+◌, ◌-◌, ◌*◌, ◌≤◌, ◌<◌}
use native.Mathlib.Omega.{arith}
use lib.Dec.{T}
use lib.ListN.{length}
use Rattle.reckoning.specs.Search.{pick, between}
use Rattle.reckoning.proofs.Searches.{T_true, T_false, both_right}
use Rattle.refusal.specs.declared.Refusal.{Refusal}
use Rattle.units.specs.Xinghe.{round_years}
use Rattle.blocks.specs.Bytes.{zeros}
use Rattle.blocks.specs.Check.{right_check}
use Rattle.volumes.specs.Volume.{block_in}
use Rattle.volumes.specs.Reader.{whole_blocks, block_count}
use Rattle.volumes.proofs.Runs.{blocks_length}
use Rattle.mending.specs.FirstYear.{year_in, sound, sound_at, implied_first, known}
use Rattle.mending.specs.Mended.{most_blocks, mendable, differing, damaged, mend_answer, volume_after, list_after, after_mend, after_notes}
use Rattle.mending.proofs.FirstYears.{length_of_lem}
use Rattle.mending.proofs.Implied.{known_implied}
use Rattle.mending.proofs.Answered.{answered, mends, after_is}

-- THE NUMBERS: 11 where the bytes are no whole number of blocks, none, or more than 1,024, then 13 where no first year is known
pub mend_numbers : (bytes : List ℕ) → answer_number (mend_answer bytes) ≡ pick (mendable (length bytes)) (pick (known bytes) 0 13) 11
unfolding mend_answer
mend_numbers bytes = go (mendable (length bytes)) (known bytes)
  where
    go : (p q : Bool) → answer_number (pick p (pick q (Ok (length (damaged bytes))) (Err Refusal.FirstYear)) (Err Refusal.Volume)) ≡ pick p (pick q 0 13) 11
    go true true = refl
    go true false = refl
    go false q = refl

-- 1,024 BLOCKS ARE ALLOWED, AND ONE MORE IS NOT
pub most_allowed : T (mendable (512 * most_blocks))
unfolding mendable whole_blocks
most_allowed = tt

pub more_refused : ¬ (T (mendable (512 * (most_blocks + 1))))
unfolding mendable whole_blocks
more_refused t = t

-- REFUSED, the volume and the list are as they were lent, and the count is 0
pub refused_kept : (bytes list : List ℕ) (e : Refusal) → mend_answer bytes ≡ Err e → (after_mend bytes ≡ bytes) × (after_notes bytes list ≡ list) × (result_unwrap_or (mend_answer bytes) 0 ≡ 0)
unfolding volume_after list_after
refused_kept bytes list e q = (rw q refl, rw q refl, rw q refl)

-- THE VOLUME STAYS AS LONG AS IT WAS
pub after_length : (bytes : List ℕ) → length (after_mend bytes) ≡ length bytes
unfolding volume_after
after_length bytes = go (mend_answer bytes) refl
  where
    go : (a : Result ℕ Refusal) → mend_answer bytes ≡ a → length (volume_after a bytes) ≡ length bytes
    go (Ok k) q =
        let a = answered bytes k q in
        let f = implied_first bytes in
        let l = length_of_lem (length bytes) a.whole in
        ap (λ (b : Result ℕ Refusal). length (volume_after b bytes)) (sym q) ∙ ap length (after_is bytes f k a) ∙ (omega (arith, l, blocks_length f (f + block_count bytes - 1 + 1 - f)))
    go (Err e) q = refl

-- bytes of which the length is right
module _ (bytes : List ℕ) (whole : T (mendable (length bytes))) where
  abbrev n : ℕ
  n = block_count bytes

  -- the year that the block at an index names
  abbrev year : ℕ → ℕ
  year i = year_in (block_in bytes i)

  unknown : ¬ (T (known bytes)) → mend_answer bytes ≡ Err Refusal.FirstYear
  unfolding mend_answer
  unknown h = rw (T_true (mendable (length bytes)) whole, T_false (known bytes) h) refl

  -- IT IS 13 IF NO BLOCK IS SOUND
  pub none_sound : ((i : ℕ) → i < n → ¬ (T (sound_at bytes i))) → mend_answer bytes ≡ Err Refusal.FirstYear
  none_sound none = unknown (λ t. let s = (known_implied bytes t).some in none s.0 s.1 s.2)

  -- IF SOUND ONES IMPLY DIFFERENT FIRST YEARS: the year of one less its index, in whole numbers, is not the year of the other less its own
  pub different : (i j : ℕ) → i < n → j < n → T (sound_at bytes i) → T (sound_at bytes j) → ¬ (year i + j ≡ year j + i) → mend_answer bytes ≡ Err Refusal.FirstYear
  different i j hi hj si sj apart =
      unknown (λ t. let p = known_implied bytes t in apart (omega (arith, p.named i hi si, p.named j hj sj)))

  -- OR IF THE IMPLIED RUN LEAVES THE ROUND: a sound block's year is not above its index, or it plus the number of blocks after it is past the round's
  -- last
  pub before_round : (i : ℕ) → i < n → T (sound_at bytes i) → year i ≤ i → mend_answer bytes ≡ Err Refusal.FirstYear
  before_round i h s below = unknown (λ t. let p = known_implied bytes t in omega (arith, p.named i h s, p.run.least))

  pub past_round_lem : (i : ℕ) → i < n → T (sound_at bytes i) → round_years < year i + (n - 1 - i) → mend_answer bytes ≡ Err Refusal.FirstYear
  past_round_lem i h s past = unknown (λ t. let p = known_implied bytes t in omega (arith, p.named i h s, p.run.most))

  -- AND ELSE THE VOLUME IS MENDED
  pub else_mended : (i : ℕ) → i < n → T (sound_at bytes i) → ((j : ℕ) → j < n → T (sound_at bytes j) → year i + j ≡ year j + i) → i < year i → year i + (n - 1 - i) ≤ round_years → mend_answer bytes ≡ Ok (length (differing bytes (year i - i) n))
  else_mended i h s one above within =
      mends bytes (year i - i) (length (differing bytes (year i - i) n))
      (record {
        whole = whole;
        implied = record {
          some = (i, h, s);
          named = λ j g t. omega (arith, one j g t, above);
          run = record { least = omega (arith, above); order = omega (arith, h); most = omega (arith, h, above, within) };
        };
        count = refl;
      })

-- 512 ZEROS ARE NOT SOUND, though their check is right: there is no year 0
pub zeros_unsound : ¬ (T (sound (zeros 512)))
unfolding sound between
zeros_unsound t = both_right (right_check (zeros 512)) false t
