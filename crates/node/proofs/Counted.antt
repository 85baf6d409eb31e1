-- The marked eclipses of all months before one, by one division.
-- Assumes nothing.
use mathlib.Core.Path.{◌≡◌, refl}
use mathlib.Core.Bool.{cond}
use mathlib.Core.Logic.{⊎_elim}
use Prim.Native.Nat.{ℕ, zero, suc, ◌+◌, ◌-◌, ◌*◌, ◌/◌, ◌%◌, ◌≤◌, ◌<◌}
use native.Mathlib.Omega.{arith}
use borrow.Author.Tests.{le-leb, lt-leb}
use Rattle.reckoning.specs.Search.{count}
use Rattle.reckoning.proofs.Searches.{le_or_lt}
use Rattle.units.specs.Xinghe.{P, M, round_months}
use Rattle.node.specs.Eclipses.{eclipse_at, eclipse_of, no_eclipse, node_at}
use Rattle.node.specs.Nodes.{nodes_of}
use Rattle.node.specs.Marks.{new_marked, full_marked, new_moons_marked, full_moons_marked}
use Rattle.node.proofs.Heads.{distance_0_alone}

-- 1 where the moon h halves past the node is marked: not more than P, or not less than 2M - P
abbrev bit : ℕ → ℕ
bit h = cond (eclipse_of h).marked 1 0

near : (h : ℕ) → h ≤ P → bit h ≡ 1
unfolding eclipse_of eclipse_at
near h a = rw (le-leb h P a)

far : (h : ℕ) → P < h → 2 * M - P ≤ h → bit h ≡ 1
unfolding eclipse_of eclipse_at
far h a b = rw (lt-leb h P a, le-leb (2 * M - P) h b)

between : (h : ℕ) → P < h → h < 2 * M - P → bit h ≡ 0
unfolding eclipse_of no_eclipse
between h a b = rw (lt-leb h P a, lt-leb (2 * M - P) h b)

-- a number that goes up by one exactly at the marked moons
module _ (h here next : ℕ) (low : h ≤ P → next ≡ here + 1) (high : 2 * M - P ≤ h → next ≡ here + 1) (mid : P < h → h < 2 * M - P → next ≡ here) where
  goes_up : next ≡ here + bit h
  goes_up =
      ⊎_elim
      (λ (a : h ≤ P). rw (near h a) (low a))
      (λ (a : P < h). ⊎_elim
      (λ (b : 2 * M - P ≤ h). rw (far h a b) (high b))
      (λ (b : h < 2 * M - P). rw (between h a b) (omega (arith, mid a b)))
      (le_or_lt (2 * M - P) h))
      (le_or_lt h P)

-- the nodes before the middle between the new moons of month m - 1 and month m, and before the new moon of month m
abbrev by_new : ℕ → ℕ
by_new m = (2 * m * P + (2 * M - 1 - P)) / (2 * M)

abbrev by_full : ℕ → ℕ
by_full m = (m * P + (M - 1)) / M

-- a new moon is never P/2 before a node: P is odd
new_step : (m : ℕ) → by_new (suc m) ≡ by_new m + cond (new_marked m) 1 0
unfolding nodes_of node_at
new_step m =
    let q : ℕ = m * P / M in
    let x : ℕ = m * P % M in
    goes_up (2 * x) (by_new m) (by_new (suc m))
    (λ a. let here : by_new m ≡ q = omega (arith, a) in let next : by_new (suc m) ≡ q + 1 = omega (arith, a) in omega arith)
    (λ a. let here : by_new m ≡ q + 1 = omega (arith, a) in let next : by_new (suc m) ≡ q + 2 = omega (arith, a) in omega arith)
    (λ a b. let here : by_new m ≡ q + 1 = omega (arith, a, b) in let next : by_new (suc m) ≡ q + 1 = omega (arith, a, b) in omega arith)

-- MARKED NEW MOONS by one division
pub new_counted : (m : ℕ) → new_moons_marked m ≡ by_new m
unfolding count
new_counted zero = refl
new_counted (suc m) = omega (arith, new_counted m, new_step m)

-- no new moon of the round but the first stands at a node, nor does the one after the round
off_node : (m : ℕ) → m < round_months → ¬ (suc m * P % M ≡ 0)
off_node m h e =
    ⊎_elim
    (λ (a : round_months ≤ suc m). let q : suc m ≡ round_months = omega arith in omega (arith, rw q at e))
    (λ (a : suc m < round_months). omega (arith, distance_0_alone (suc m) a e))
    (le_or_lt round_months (suc m))

-- so no full moon is P/2 before a node
full_step : (m : ℕ) → m < round_months → by_full (suc m) ≡ by_full m + cond (full_marked m) 1 0
unfolding nodes_of node_at
full_step m r =
    let h : ℕ = (2 * m + 1) * P % (2 * M) in
    let q : ℕ = (2 * m + 1) * P / (2 * M) in
    goes_up h (by_full m) (by_full (suc m))
    (λ a. let here : by_full m ≡ q = omega (arith, a) in let next : by_full (suc m) ≡ q + 1 = omega (arith, a) in omega arith)
    (λ a. let past : 2 * M - P < h = ⊎_elim
    (λ (b : h ≤ 2 * M - P). let nodes : suc m * P / M ≡ q + 1 = omega (arith, a, b) in absurd (off_node m r (omega (arith, a, b, nodes))))
    (λ (b : 2 * M - P < h). b)
    (le_or_lt h (2 * M - P)) in
    let here : by_full m ≡ q + 1 = omega (arith, past) in let next : by_full (suc m) ≡ q + 2 = omega (arith, past) in omega arith)
    (λ a b. let here : by_full m ≡ q + 1 = omega (arith, a, b) in let next : by_full (suc m) ≡ q + 1 = omega (arith, a, b) in omega arith)

-- MARKED FULL MOONS by one division
pub full_counted : (m : ℕ) → m ≤ round_months → full_moons_marked m ≡ by_full m
unfolding count
full_counted zero h = refl
full_counted (suc m) h = omega (arith, full_counted m (omega arith), full_step m (omega arith))
