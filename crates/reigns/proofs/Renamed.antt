-- A volume whose first four bytes name another year, and the answer.
-- Assumes nothing.
use Rattle.std.specs.Prelude.{Result, Err}
use mathlib.Core.Path.{◌≡◌, refl, sym, ◌∙◌}
use mathlib.Core.Logic.{⊎_elim, ◌≢◌}
use mathlib.Core.List.{List}
use Prim.Native.Nat.{ℕ, zero, suc, ◌+◌, ◌-◌, ◌*◌, ◌≤◌, ◌<◌}
use native.Mathlib.Omega.{arith}
use borrow.Author.Tests.{eq-eqb, ne_eqb}
use lib.Dec.{T, eqb}
use lib.ListN.{length, get_or}
use lib.Seq.{ext_get_or}
use Rattle.reckoning.specs.Search.{pick}
use Rattle.reckoning.proofs.Searches.{T_false, decide, together}
use Rattle.refusal.specs.declared.Refusal.{Refusal}
use Rattle.volumes.specs.Volume.{block_in}
use Rattle.volumes.specs.Reader.{whole_blocks, block_count, first_year}
use Rattle.volumes.proofs.Runs.{part_length}
use Rattle.volumes.proofs.Parts.{byte_in}
use Rattle.reigns.specs.Marked.{in_volume, from_last, from_both, marked_answer}
use Rattle.reigns.proofs.Spans.{inside, is_inside}

-- years counted from the volume's first
years_from : (f n a b : ℕ) → in_volume f (f + n) (f + a) (f + b) ≡ in_volume 0 n a b
years_from f n a b =
    together (in_volume f (f + n) (f + a) (f + b)) (in_volume 0 n a b)
    (λ t. let i = inside f (f + n) (f + a) (f + b) t in is_inside 0 n a b (record { after = omega arith; order = omega (arith, i.order); before = omega (arith, i.before) }))
    (λ t. let i = inside 0 n a b t in is_inside f (f + n) (f + a) (f + b) (record { after = omega arith; order = omega (arith, i.order); before = omega (arith, i.before) }))

starts : (f a : ℕ) → eqb (f + a) f ≡ eqb a 0
starts f zero = eq-eqb (f + 0) f (omega arith) ∙ sym (eq-eqb 0 0 refl)
starts f (suc a) = ne_eqb (f + suc a) f (λ (q : f + suc a ≡ f). omega arith) ∙ sym (ne_eqb (suc a) 0 (λ (q : suc a ≡ 0). omega arith))

abbrev from_first : List ℕ → ℕ → ℕ → Result (ℕ × ℕ) Refusal
from_first w a b =
    pick (whole_blocks (length w))
    (pick (in_volume 0 (block_count w) a b)
    (pick (eqb a 0) (from_last (block_in w b)) (from_both (block_in w (a - 1)) (block_in w b)))
    (Err Refusal.Span))
    (Err Refusal.Volume)

from_first_lem : (w : List ℕ) (a b : ℕ) → marked_answer w (first_year w + a) (first_year w + b) ≡ from_first w a b
unfolding marked_answer
from_first_lem w a b =
    let f : ℕ = first_year w in
    let last : f + b - f ≡ b = omega arith in
    let before : f + a - 1 - f ≡ a - 1 = omega arith in
    rw (years_from f (block_count w) a b, starts f a, last, before)

module _ (u v : List ℕ) (long : length u ≡ length v) (same : (k : ℕ) → 4 ≤ k → get_or u k 0 ≡ get_or v k 0) where
  blocks_same : (i : ℕ) → 1 ≤ i → 512 * i + 512 ≤ length v → block_in u i ≡ block_in v i
  blocks_same i h room =
      let a = part_length u (512 * i) 512 refl (omega (arith, long)) in
      let b = part_length v (512 * i) 512 refl room in
      ext_get_or 0 (block_in u i) (block_in v i) (a ∙ sym b)
      (λ p q. let l : p < 512 = omega (arith, a) in byte_in u i p l ∙ same (512 * i + p) (omega arith) ∙ sym (byte_in v i p l))

  looked : (a b : ℕ) → a ≢ 1 → 1 ≤ b → T (in_volume 0 (block_count v) a b) → from_first u a b ≡ from_first v a b
  looked zero b n h t = let i = inside 0 (block_count v) 0 b t in rw (long, blocks_same b h (omega (arith, i.before)))
  looked (suc zero) b n h t = absurd (n refl)
  looked (suc (suc k)) b n h t =
      let i = inside 0 (block_count v) (suc (suc k)) b t in
      rw (long, blocks_same b h (omega (arith, i.before)), blocks_same (suc (suc k) - 1) (omega arith) (omega (arith, i.order, i.before)))

  -- ANOTHER FIRST YEAR SHIFTS ALL YEARS: of two volumes that differ in their first four bytes alone, spans that lie alike from the years that these name
  -- are answered alike, if they neither begin with the second year nor end with the first; only those can have the first block looked at
  pub shifted : (a b : ℕ) → a ≢ 1 → 1 ≤ b → marked_answer u (first_year u + a) (first_year u + b) ≡ marked_answer v (first_year v + a) (first_year v + b)
  shifted a b n h =
      let test = in_volume 0 (block_count v) a b in
      from_first_lem u a b
      ∙ ⊎_elim (looked a b n h) (λ (f : ¬ (T test)). rw (long, T_false test f)) (decide test)
      ∙ sym (from_first_lem v a b)
