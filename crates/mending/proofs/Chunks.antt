-- A volume's blocks one after another, each with its index.
-- Assumes nothing.
use Rattle.std.proofs.Common.{◌≡◌, ℕ, ◌+◌, ◌*◌, ◌≤◌, ◌<◌, List, Option, Some, None, Bor, length, ⊎_elim, subst, ◌∙◌, refl, arith}
use Rattle.std.specs.declared.iter.Zip.{Zip}
use Rattle.std.specs.declared.ops.Range.{Range}
use Rattle.std.specs.declared.slice.ChunksExact.{ChunksExact}
use Rattle.std.specs.Iterator.Adapters.{zip_first, zip_second, zip_steps}
use Rattle.std.specs.Slice.Iter.{chunks_exact_steps}
use Rattle.std.proofs.iter.Yields.{nat_range_steps}
use Rattle.volumes.specs.Volume.{block_in}
use Rattle.volumes.proofs.Chunks.{Given, next_given, all_given}

-- k blocks of the n are given, and the next index is k
pub record Counted (v : List ℕ) (n k : ℕ) (s : Zip (Range ℕ) (ChunksExact ℕ)) : Type 0 where
  pub start : (zip_first s).start ≡ k
  pub end : (zip_first s).end ≡ n
  pub most : k ≤ n
  pub blocks : Given v k (zip_second s)

pub none_counted : (v : List ℕ) (n : ℕ) (s : Zip (Range ℕ) (ChunksExact ℕ)) → (zip_first s).start ≡ 0 → (zip_first s).end ≡ n → Given v 0 (zip_second s) → Counted v n 0 s
none_counted v n s a b g = record { start = a; end = b; most = omega arith; blocks = g }

module _ (v : List ℕ) (n k : ℕ) (s : Zip (Range ℕ) (ChunksExact ℕ)) (g : Counted v n k s) (r : Option (ℕ × Bor (List ℕ))) (t : Zip (Range ℕ) (ChunksExact ℕ)) (h : zip_steps nat_range_steps chunks_exact_steps s r t) where
  -- one more
  pub next_counted : (i : ℕ) (x : Bor (List ℕ)) → r ≡ Some (i, x) → (i ≡ k) × (k < n) × (x.now ≡ block_in v k) × Counted v n (k + 1) t
  next_counted i x e =
      let m = subst (λ (o : Option (ℕ × Bor (List ℕ))). zip_steps nat_range_steps chunks_exact_steps s o t) e h in
      let b = next_given v k (zip_second s) g.blocks (Some x) (zip_second t) m.1 x refl in
      let few : k < n = omega (arith, m.0.1.0, g.start, g.end) in (
        m.0.1.1 ∙ g.start,
        few,
        b.0,
        record { start = omega (arith, m.0.1.2, g.start); end = m.0.0 ∙ g.end; most = omega (arith, few); blocks = b.1 },
      )

  -- there is none more
  pub all_counted : r ≡ None → length v ≡ 512 * n → k ≡ n
  all_counted e long =
      let m = subst (λ (o : Option (ℕ × Bor (List ℕ))). zip_steps nat_range_steps chunks_exact_steps s o t) e h in
      ⊎_elim
      (λ (w : (u : Range ℕ) × nat_range_steps (zip_first s) None u). omega (arith, w.1.1.0, g.start, g.end, g.most))
      (λ (w : (u : ChunksExact ℕ) × chunks_exact_steps (zip_second s) None u). omega (arith, all_given v k (zip_second s) g.blocks None w.0 w.1 refl, long))
      m
