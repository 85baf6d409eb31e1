-- A volume that has lost whole blocks at its front, and the answer.
-- Assumes nothing.
use mathlib.Core.Path.{◌≡◌, refl, sym, ap, ◌∙◌}
use mathlib.Core.List.{List}
use Prim.Native.Nat.{ℕ, suc, ◌+◌, ◌-◌, ◌*◌, ◌%◌, ◌≤◌, ◌<◌}
use native.Mathlib.Nat.{add-zero}
use native.Mathlib.Omega.{arith}
use borrow.Author.Tests.{eq-eqb}
use lib.Dec.{T, leb, eqb, le→leb}
use lib.ListN.{length, drop, length-drop}
use lib.Seq.{drop-drop, get_or-drop}
use Rattle.reckoning.proofs.Searches.{both_T}
use Rattle.totals.specs.Totals.{totals}
use Rattle.blocks.specs.Bytes.{value32}
use Rattle.blocks.proofs.Values.{year_of_lem}
use Rattle.volumes.specs.Volume.{Run, block_at, volume_of, block_in}
use Rattle.volumes.specs.Reader.{whole_blocks, first_year}
use Rattle.volumes.proofs.Runs.{blocks_length}
use Rattle.volumes.proofs.Parts.{block_in_lem, field_in}
use Rattle.reigns.specs.Marked.{end_year, block_of_year, marked_answer}
use Rattle.reigns.proofs.Spans.{Inside}
use Rattle.reigns.proofs.Counted.{moons, one, holds, looks, from_within}

module _ (first last cut : ℕ) (r : Run first last) (left : first + cut ≤ last) where
  abbrev volume : List ℕ
  volume = drop (512 * cut) (volume_of first last)

  long : length volume ≡ 512 * (last + 1 - first - cut)
  long = omega (arith, length-drop (512 * cut) (volume_of first last), blocks_length first (last + 1 - first))

  whole : T (whole_blocks (length volume))
  unfolding whole_blocks
  whole =
      both_T (leb 1 (length volume)) (eqb (length volume % 512) 0) (le→leb 1 (length volume) (omega (arith, long)))
      (rw (eq-eqb (length volume % 512) 0 (omega (arith, long))) tt)

  -- it names the first year that is left
  named : first_year volume ≡ first + cut
  unfolding block_at
  named =
      let all = volume_of first last in
      let at : ℕ = 512 * cut in
      let there : first_year volume ≡ value32 all at = rw (get_or-drop at all 0 0, get_or-drop at all 1 0, get_or-drop at all 2 0, get_or-drop at all 3 0, add-zero at) refl in
      let field : value32 (block_in all cut) 0 ≡ value32 all at = rw (add-zero at) at (field_in all cut 0 (omega arith)) in
      there ∙ sym field ∙ ap (λ (l : List ℕ). value32 l 0) (block_in_lem first (last + 1 - first) cut (omega arith))
      ∙ year_of_lem (first + cut) (totals first (suc cut)) (omega (arith, r.most))

  own : (year : ℕ) → first + cut ≤ year → year ≤ last → block_of_year volume year ≡ block_at first (year - first)
  own year lo hi =
      let e : 512 * cut + 512 * (year - (first + cut)) ≡ 512 * (year - first) = omega arith in
      rw (named, drop-drop (512 * (year - (first + cut))) (512 * cut) (volume_of first last), e) (block_in_lem first (last + 1 - first) (year - first) (omega arith))

  module _ (from to : ℕ) (order : from ≤ to) (before : to ≤ last) where
    years : first + cut ≤ from → Inside (first_year volume) (end_year volume) from to
    years h = record { after = omega (arith, named); order = order; before = omega (arith, named, long) }

    up_to : first + cut ≤ from → Run first to
    up_to h = record { least = r.least; order = omega arith; most = omega (arith, r.most) }

    -- EVERY SPAN THAT STARTS AFTER ITS FIRST YEAR IS COUNTED
    pub cut_counted : first + cut < from → marked_answer volume from to ≡ moons (totals from (to + 1 - from))
    cut_counted h =
        from_within volume from to whole (years (omega arith)) first (up_to (omega arith)) (omega arith) (omega (arith, named))
        (own (from - 1) (omega arith) (omega arith)) (own to (omega arith) before)

    -- A SPAN THAT STARTS IT IS COUNTED FROM THE YEAR IN WHICH THE VOLUME ONCE BEGAN, and nothing tells
    pub cut_start : from ≡ first + cut → marked_answer volume from to ≡ moons (totals first (to + 1 - first))
    cut_start e =
        looks volume from to whole (years (omega arith))
        ∙ rw (eq-eqb from (first_year volume) (e ∙ sym named), own to (omega arith) before)
        (one (block_at first (to - first)) (totals first (to + 1 - first)) (holds first to (up_to (omega arith))))
