-- Beyond the volume's length and its first four bytes, nothing outside the one or two blocks changes the answer.
-- Assumes nothing.
use mathlib.Core.Path.{◌≡◌, sym, ap, ◌∙◌}
use mathlib.Core.Bool.{Bool}
use mathlib.Core.Logic.{⊎_elim}
use mathlib.Core.List.{List}
use Prim.Native.Nat.{ℕ, ◌-◌, ◌≤◌, ◌<◌}
use native.Mathlib.Nat.{eq-or-lt_of_le}
use native.Mathlib.Omega.{arith}
use borrow.Author.Tests.{eq-eqb, lt-leb}
use lib.Dec.{T}
use lib.ListN.{length, take}
use lib.Seq.{get_or-take}
use Rattle.reckoning.proofs.Searches.{T_false, decide, le_or_lt}
use Rattle.volumes.specs.Reader.{whole_blocks, first_year}
use Rattle.reigns.specs.Marked.{end_year, block_of_year, in_volume, marked_answer}

-- the first four bytes name the first year
named : (u : List ℕ) → first_year (take 4 u) ≡ first_year u
named u = rw (get_or-take 4 u 0 0 (omega arith), get_or-take 4 u 1 0 (omega arith), get_or-take 4 u 2 0 (omega arith), get_or-take 4 u 3 0 (omega arith))

module _ (u v : List ℕ) (from to : ℕ) (long : length u ≡ length v) where
  -- where they agree in the blocks, whether or not these are looked at
  agreed : take 4 u ≡ take 4 v → block_of_year u to ≡ block_of_year v to → (first_year u < from → block_of_year u (from - 1) ≡ block_of_year v (from - 1)) → marked_answer u from to ≡ marked_answer v from to
  unfolding marked_answer in_volume
  agreed four last before =
      let first : first_year v ≡ first_year u = sym (named v) ∙ ap first_year (sym four) ∙ named u in
      ⊎_elim
      (λ (l : from ≤ first_year u).
      ⊎_elim
      (λ (e : from ≡ first_year u). rw (long, last, first, eq-eqb from (first_year u) e))
      (λ (e : from < first_year u). rw (first, long, lt-leb (first_year u) from e))
      (eq-or-lt_of_le l))
      (λ (l : first_year u < from). rw (long, last, before l, first))
      (le_or_lt from (first_year u))

  abbrev whole : Bool
  whole = whole_blocks (length u)

  abbrev inside : Bool
  inside = in_volume (first_year u) (end_year u) from to

  -- NOTHING ELSE IS LOOKED AT: two volumes of one length have one answer, number and values, if they agree in the first four bytes, where they are whole
  -- blocks; and where the years are in the volume too, in the block of the span's last year and, unless the span starts the volume, in that of the
  -- year before it
  pub only_these : (T whole → take 4 u ≡ take 4 v) → (T whole → T inside → block_of_year u to ≡ block_of_year v to) → (T whole → T inside → first_year u < from → block_of_year u (from - 1) ≡ block_of_year v (from - 1)) → marked_answer u from to ≡ marked_answer v from to
  unfolding marked_answer
  only_these four last before =
      ⊎_elim
      (λ (w : T whole).
      let first : first_year v ≡ first_year u = sym (named v) ∙ ap first_year (sym (four w)) ∙ named u in
      ⊎_elim
      (λ (t : T inside). agreed (four w) (last w t) (before w t))
      (λ (n : ¬ (T inside)). rw (first, ← long, T_false inside n))
      (decide inside))
      (λ (n : ¬ (T whole)). rw (← long, T_false whole n))
      (decide whole)
