-- The eras' heads and the distances since the node.
-- Assumes nothing.
use mathlib.Core.Path.{◌≡◌, refl}
use mathlib.Core.Bool.{true}
use mathlib.Core.Logic.{⊎_elim}
use mathlib.Core.List.{[], ◌∷◌, map}
use Prim.Native.Nat.{ℕ, zero, suc, ◌+◌, ◌-◌, ◌*◌, ◌/◌, ◌%◌, ◌≤◌, ◌<◌}
use native.Mathlib.Nat.{mod-add-mod}
use native.Mathlib.Omega.{arith}
use lib.Dec.{eqb, eqb→eq}
use borrow.Author.Tests.{le-leb, lt-leb}
use mir.Val.{bool_byte}
use Rattle.reckoning.specs.Search.{pick}
use Rattle.reckoning.proofs.Searches.{all_at, le_or_lt}
use Rattle.reckoning.specs.Means.{term_day}
use Rattle.reckoning.proofs.Days.{day_before}
use Rattle.units.specs.Xinghe.{means, rule, N, P, M, era_years, era_months, round_months}
use Rattle.units.proofs.Sound.{sound}
use Rattle.node.specs.Eclipses.{distance_of, eclipse_at, eclipse_of, no_eclipse, node_at}
use Rattle.node.specs.Sides.{heads, head_in, own_head, head_distance, passed, turned, counted_side}
use Rattle.node.specs.declared.Side.{Side}
use Rattle.node.specs.Nodes.{nodes_of}

-- an era's head is the first month of its first year
pub era_heads : (e : ℕ) → rule.before (e * era_years) ≡ e * era_months
unfolding term_day
era_heads e = omega (arith, day_before means sound.moon sound.sun (e * era_years))

-- what holds of each era by itself holds of all
pub each_era : (A : ℕ → Type 0) → A 0 → A 1 → A 2 → A 3 → A 4 → A 5 → (e : ℕ) → e < 6 → A e
each_era A a b c d f g zero h = a
each_era A a b c d f g (suc zero) h = b
each_era A a b c d f g (suc (suc zero)) h = c
each_era A a b c d f g (suc (suc (suc zero))) h = d
each_era A a b c d f g (suc (suc (suc (suc zero)))) h = f
each_era A a b c d f g (suc (suc (suc (suc (suc zero))))) h = g
each_era A a b c d f g (suc (suc (suc (suc (suc (suc e)))))) h = absurd (omega arith)

-- THE PRINTED DISTANCES OF THE HEADS are what the arithmetic gives
pub heads_right : map head_distance heads ≡ map (λ (e : ℕ). e * era_months * P % M) (0 ∷ 1 ∷ 2 ∷ 3 ∷ 4 ∷ 5 ∷ [])
heads_right = refl

head_right : (m : ℕ) → m < round_months → head_distance (own_head m) ≡ m / era_months * era_months * P % M
head_right m h =
    let e : ℕ = m / era_months in
    eqb→eq (head_distance (own_head m)) (e * era_months * P % M)
    (all_at (λ (x : ℕ). eqb (head_distance (head_in x)) (x * era_months * P % M)) 6 tt e (omega arith))

-- so what is left where the whole M's since the head are counted is the distance since the last node
pub count_rest : (m : ℕ) → m < round_months → (head_distance (own_head m) + m % era_months * P) % M ≡ m * P % M
count_rest m h =
    let e : m / era_months * era_months * P + m % era_months * P ≡ m * P = omega arith in
    rw (head_right m h, mod-add-mod, e)

-- the nodes passed since the origin: those up to the era's head, and those since
since_origin : (m : ℕ) → m < round_months → m * P / M ≡ passed m + m / era_months * era_months * P / M
unfolding passed
since_origin m h = rw (head_right m h) (omega arith)

-- the side after so many turns from outside
abbrev pub after : ℕ → Side
after n = pick (eqb (n % 2) 0) Side.Outside Side.Inside

pub turned_on : (n k : ℕ) → pick (eqb (n % 2) 0) (after k) (turned (after k)) ≡ after (n + k)
turned_on n k = go (n % 2) (k % 2) refl refl
  where
    go : (a b : ℕ) → n % 2 ≡ a → k % 2 ≡ b → pick (eqb (n % 2) 0) (after k) (turned (after k)) ≡ after (n + k)
    go zero zero p q = let e : (n + k) % 2 ≡ 0 = omega arith in rw (p, q, e) refl
    go zero (suc b) p q = let e : (n + k) % 2 ≡ 1 = omega arith in let f : k % 2 ≡ 1 = omega arith in rw (p, f, e) refl
    go (suc a) zero p q = let e : (n + k) % 2 ≡ 1 = omega arith in let f : n % 2 ≡ 1 = omega arith in rw (f, q, e) refl
    go (suc a) (suc b) p q = let e : (n + k) % 2 ≡ 0 = omega arith in let f : n % 2 ≡ 1 = omega arith in let g : k % 2 ≡ 1 = omega arith in rw (f, g, e) refl

-- the nodes up to an era's head, and one turn more in the second era, give the side of the table
abbrev head_turns : ℕ → ℕ
head_turns e = e * era_months * P / M + bool_byte (eqb e 1)

head_side : (e : ℕ) → e < 6 → (head_in e).side ≡ after (head_turns e)
head_side = each_era (λ (e : ℕ). (head_in e).side ≡ after (head_turns e)) refl refl refl refl refl refl

-- what is a multiple of M and less than M is 0
multiple : (m a b : ℕ) → m + M * b ≡ M * a → m < M → m ≡ 0
multiple m a b e h = omega (arith, e, h)

-- MONTH 0 ALONE HAS THE DISTANCE 0 of all months of the round, for P and M have no common factor: 13976622·P is 2381339·M + 1
pub distance_0_alone : (m : ℕ) → m < round_months → m * P % M ≡ 0 → m ≡ 0
distance_0_alone m h e =
    let common : m + M * (2381339 * m) ≡ M * (13976622 * (m * P / M)) = omega (arith, e) in
    multiple m (13976622 * (m * P / M)) (2381339 * m) common (omega (arith, h))

-- THE SIDE BY THE NODES PASSED SINCE THE ORIGIN: turned from outside once for each, and in the second era once more
abbrev pub turns : ℕ → ℕ
turns m = m * P / M + bool_byte (eqb (m / era_months) 1)

pub side_since_origin : (m : ℕ) → m < round_months → counted_side m ≡ after (turns m)
side_since_origin m h =
    let e : ℕ = m / era_months in
    let sum : passed m + head_turns e ≡ turns m = omega (arith, since_origin m h) in
    rw (head_side e (omega arith), turned_on (passed m) (head_turns e), sum) refl

-- THE NEW MOON'S DISTANCE is the whole x = m·P mod M, with no half
pub new_whole : (m : ℕ) → ((nodes_of m).new.distance.degrees ≡ m * P % M / N) × ((nodes_of m).new.distance.remainder.parts ≡ m * P % M % N) × ((nodes_of m).new.distance.half ≡ 0)
unfolding nodes_of node_at distance_of
new_whole m = omega arith

-- THE SIZE of a marked eclipse is 1 to 15
size_at : (h : ℕ) → h ≤ P → (1 ≤ (eclipse_at h).size) × ((eclipse_at h).size ≤ 15)
unfolding eclipse_at distance_of
size_at h b = omega arith

pub size_range : (h : ℕ) → h < 2 * M → (eclipse_of h).marked ≡ true → (1 ≤ (eclipse_of h).size) × ((eclipse_of h).size ≤ 15)
unfolding eclipse_of no_eclipse
size_range h b =
    ⊎_elim
    (λ (a : h ≤ P). rw (le-leb h P a) (λ e. size_at h a))
    (λ (a : P < h). ⊎_elim
    (λ (c : 2 * M - P ≤ h). rw (lt-leb h P a, le-leb (2 * M - P) h c) (λ e. size_at (2 * M - h) (omega arith)))
    (λ (c : h < 2 * M - P). rw (lt-leb h P a, lt-leb (2 * M - P) h c) (λ e. let bad : ◌≡◌ {A = ℕ} 0 1 = cc in absurd (omega arith)))
    (le_or_lt (2 * M - P) h))
    (le_or_lt h P)
