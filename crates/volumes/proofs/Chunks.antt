-- A volume's blocks one after another, as `chunks_exact` gives them.
-- Assumes nothing.
use Rattle.std.proofs.Common.{◌≡◌, ℕ, ◌+◌, ◌*◌, ◌/◌, ◌≤◌, List, ◌++◌, Option, Some, None, Bor, length, take, drop, sym, ap, subst, ◌∙◌, arith, length-append, length-drop}
use lib.Seq.{take_at, drop_at, drop-drop}
use Rattle.std.specs.declared.slice.ChunksExact.{ChunksExact}
use Rattle.std.specs.Slice.Iter.{chunks_exact_rest, chunks_exact_size, chunks_exact_steps}
use Rattle.volumes.specs.Volume.{block_in}

-- n of them are given, and what is left is at hand
pub record Given (v : List ℕ) (n : ℕ) (s : ChunksExact ℕ) : Type 0 where
  pub size : chunks_exact_size s ≡ 512
  pub few : 512 * n ≤ length v
  pub rest : chunks_exact_rest s ≡ drop (512 * n) v

pub none_given : (v : List ℕ) (s : ChunksExact ℕ) → chunks_exact_size s ≡ 512 → chunks_exact_rest s ≡ v → Given v 0 s
none_given v s k e = record { size = k; few = omega arith; rest = e }

module _ (v : List ℕ) (n : ℕ) (s : ChunksExact ℕ) (g : Given v n s) (r : Option (Bor (List ℕ))) (t : ChunksExact ℕ) (h : chunks_exact_steps s r t) where
  -- one more
  pub next_given : (x : Bor (List ℕ)) → r ≡ Some x → (x.now ≡ block_in v n) × Given v (n + 1) t
  next_given x e =
      let k = subst (λ (o : Option (Bor (List ℕ))). chunks_exact_steps s o t) e h in
      let all : drop (512 * n) v ≡ x.now ++ chunks_exact_rest t = sym g.rest ∙ k.1.0 in
      let long : length x.now ≡ 512 = k.1.1 ∙ g.size in
      let on : 512 * n + 512 ≡ 512 * (n + 1) = omega arith in (
        sym (take_at x.now (chunks_exact_rest t) 512 long) ∙ ap (λ (l : List ℕ). take 512 l) (sym all),
        record {
          size = k.0 ∙ g.size;
          few = omega (arith, g.few, long, ap length all, length-append x.now (chunks_exact_rest t), length-drop (512 * n) v);
          rest = sym (drop_at x.now (chunks_exact_rest t) 512 long)
              ∙ ap (λ (l : List ℕ). drop 512 l) (sym all)
              ∙ drop-drop 512 (512 * n) v
              ∙ ap (λ (j : ℕ). drop j v) on;
        },
      )

  -- there is none more
  pub all_given : r ≡ None → n ≡ length v / 512
  all_given e =
      let k = subst (λ (o : Option (Bor (List ℕ))). chunks_exact_steps s o t) e h in
      omega (arith, g.few, g.size, k.1.0, ap length g.rest, length-drop (512 * n) v)
