-- A first year is known exactly where the sound blocks imply it.
-- Assumes nothing.
use mathlib.Core.Path.{◌≡◌, ap, ◌∙◌}
use mathlib.Core.Logic.{⊎_elim}
use mathlib.Core.Bool.{Bool, true, false, ◌&&◌, ◌||◌, not}
use mathlib.Core.List.{List}
use Prim.Native.Nat.{ℕ, ◌+◌, ◌-◌, ◌<◌}
use native.Mathlib.Omega.{arith}
use lib.Dec.{T, eqb, eqb→eq}
use Rattle.reckoning.specs.Search.{any, all}
use Rattle.reckoning.proofs.Searches.{T_true, T_false, decide, both_left, both_right, both_T, any_of, any_gives, first_is, least, all_at, all_of}
use Rattle.volumes.specs.Volume.{Run, is_run, block_in}
use Rattle.volumes.specs.Reader.{block_count}
use Rattle.volumes.proofs.Runs.{run_of, is_run_lem}
use Rattle.mending.specs.FirstYear.{year_in, sound_at, implied_at, implied_first, implies_at, known}
use Rattle.mending.proofs.FirstYears.{own_year}

-- a block is sound, each sound one names the first year plus its index, and the run from the first year on stays in the round
pub record Implied (bytes : List ℕ) (first : ℕ) : Type 0 where
  pub some : (i : ℕ) × (i < block_count bytes) × T (sound_at bytes i)
  pub named : (i : ℕ) → i < block_count bytes → T (sound_at bytes i) → year_in (block_in bytes i) ≡ first + i
  pub run : Run first (first + block_count bytes - 1)

-- a test that only a sound block has to pass
sound_passes : (s t : Bool) → T (not s || t) → T s → T t
sound_passes true t h k = h
sound_passes false t h k = absurd k

-- a known first year is implied
pub known_implied : (bytes : List ℕ) → T (known bytes) → Implied bytes (implied_first bytes)
unfolding known implies_at
known_implied bytes t =
    let n : ℕ = block_count bytes in
    let first = implied_first bytes in
    let imply : Bool = all (implies_at bytes first) n in
    let rest = both_right (any (sound_at bytes) n) (imply && is_run first (first + n - 1)) t in
    let r = run_of first (first + n - 1) (both_right imply (is_run first (first + n - 1)) rest) in
    let each = all_at (implies_at bytes first) n (both_left imply (is_run first (first + n - 1)) rest) in
    record {
      some = any_gives (sound_at bytes) n (both_left (any (sound_at bytes) n) (imply && is_run first (first + n - 1)) t);
      named =
          λ i h s.
          let e : implied_at bytes i ≡ first = eqb→eq (implied_at bytes i) first (sound_passes (sound_at bytes i) (eqb (implied_at bytes i) first) (each i h) s) in
          omega (arith, e, r.least);
      run = r;
    }

module _ (bytes : List ℕ) (first : ℕ) (p : Implied bytes first) where
  abbrev n : ℕ
  n = block_count bytes

  -- ANY SOUND BLOCK WILL DO: one first year at the most is implied, and it is the one that the first of them tells
  pub first_implied : implied_first bytes ≡ first
  unfolding implied_first
  first_implied =
      let s = p.some in
      let l = least (sound_at bytes) s.0 s.2 in
      let here : l.0 < n = omega (arith, l.1, s.1) in
      let at = first_is (sound_at bytes) n 0 l.0 (omega arith) (omega arith) l.2 (λ q a b. l.3 q b) in
      ap (implied_at bytes) at ∙ (omega (arith, p.named l.0 here l.2))

  implies_each : (i : ℕ) → i < n → T (implies_at bytes first i)
  unfolding implies_at
  implies_each i h =
      ⊎_elim
      (λ (s : T (sound_at bytes i)).
      rw (T_true (sound_at bytes i) s, own_year (year_in (block_in bytes i)) i first p.run.least (p.named i h s)) tt)
      (λ (s : ¬ (T (sound_at bytes i))). rw (T_false (sound_at bytes i) s) tt)
      (decide (sound_at bytes i))

  -- and an implied first year is known
  pub implied_known : T (known bytes)
  unfolding known
  implied_known =
      let s = p.some in
      rw first_implied
      (both_T (any (sound_at bytes) n) (all (implies_at bytes first) n && is_run first (first + n - 1)) (any_of (sound_at bytes) n s.0 s.1 s.2)
      (both_T (all (implies_at bytes first) n) (is_run first (first + n - 1)) (all_of (implies_at bytes first) n implies_each) (is_run_lem first (first + n - 1) p.run)))
