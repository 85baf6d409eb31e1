-- A month and the next: how far past the nodes, and the side, at the eras' heads and stepped from the month before.
-- Assumes nothing.
use mathlib.Core.Path.{◌≡◌, refl, sym, ap, ◌∙◌}
use mathlib.Core.Bool.{◌&&◌}
use mathlib.Core.Logic.{⊎_elim}
use Prim.Native.Nat.{ℕ, zero, suc, ◌+◌, ◌-◌, ◌*◌, ◌/◌, ◌%◌, ◌≤◌, ◌<◌}
use native.Mathlib.Omega.{arith}
use lib.Dec.{leb, ltb, eqb}
use borrow.Author.Tests.{le-leb, lt-leb, lt-ltb, le-ltb, eq-eqb, ne_eqb}
use Rattle.reckoning.specs.Search.{pick}
use Rattle.reckoning.proofs.Searches.{pick_cases, le_or_lt}
use Rattle.units.specs.Xinghe.{P, M, era_months, round_months}
use Rattle.node.specs.Sides.{head_in, side_number, passed, turned, counted_side, side_of}
use Rattle.node.specs.Passages.{passage_of, next_passage}
use Rattle.node.specs.declared.Side.{Side}
use Rattle.node.proofs.Heads.{each_era, after, turned_on, distance_0_alone, turns, side_since_origin}

-- THE PASSAGE STEPPED FROM THE MONTH BEFORE IS RIGHT at every month
pub next_passage_lem : (m : ℕ) → next_passage (passage_of m) ≡ passage_of (suc m)
unfolding next_passage
next_passage_lem m =
    let r : ℕ = m * P % M in
    ⊎_elim
    (λ (h : M ≤ r + P).
    let nodes : suc m * P / M ≡ m * P / M + 1 = omega (arith, h) in
    let since : suc m * P % M ≡ r + P - M = omega (arith, h, nodes) in
    rw (le-leb M (r + P) h, since, nodes) refl)
    (λ (h : r + P < M).
    let nodes : suc m * P / M ≡ m * P / M = omega (arith, h) in
    let since : suc m * P % M ≡ r + P = omega (arith, h, nodes) in
    rw (lt-leb M (r + P) h, since, nodes) refl)
    (le_or_lt M (r + P))

-- MONTH 0 IS AT THE NODE
pub month_0 : side_of 0 ≡ Side.AtNode
unfolding side_of
month_0 = refl

-- AT AN ERA'S HEAD THE SIDE IS THE TABLE'S, but the first's, which stands at the node
pub era_side : (e : ℕ) → e < 6 → 0 < e → side_of (e * era_months) ≡ (head_in e).side
unfolding side_of passed
era_side = each_era (λ (e : ℕ). 0 < e → side_of (e * era_months) ≡ (head_in e).side) (λ z. absurd (omega arith)) (λ _. refl) (λ _. refl) (λ _. refl) (λ _. refl) (λ _. refl)

-- off the node, the side is the one that is counted
off_node : (m : ℕ) → 0 < m → m < round_months → side_of m ≡ counted_side m
unfolding side_of
off_node m a h = rw (ne_eqb (m * P % M) 0 (λ q. omega (arith, a, distance_0_alone m h q))) refl

side_turns : (m : ℕ) → 0 < m → m < round_months → side_of m ≡ after (turns m)
side_turns m a h = off_node m a h ∙ side_since_origin m h

-- NO OTHER MONTH OF THE ROUND IS AT THE NODE
pub at_node_alone : (m : ℕ) → m < round_months → side_of m ≡ Side.AtNode → m ≡ 0
at_node_alone zero h e = refl
at_node_alone (suc k) h e =
    let s : Side.AtNode ≡ after (turns (suc k)) = sym e ∙ side_turns (suc k) (omega arith) h in
    absurd (pick_cases (λ (x : Side). ¬ (Side.AtNode ≡ x)) (eqb (turns (suc k) % 2) 0) Side.Outside Side.Inside
    (λ t q. let bad : ◌≡◌ {A = ℕ} 0 1 = ap side_number q in omega arith)
    (λ t q. let bad : ◌≡◌ {A = ℕ} 0 2 = ap side_number q in omega arith)
    s)

-- the months of the second era
pub second_era : (m : ℕ) → (leb era_months m && ltb m (2 * era_months)) ≡ eqb (m / era_months) 1
second_era m =
    ⊎_elim
    (λ (h : era_months ≤ m). ⊎_elim
    (λ (g : 2 * era_months ≤ m). rw (le-leb era_months m h, le-ltb m (2 * era_months) g) (sym (ne_eqb (m / era_months) 1 (λ q. omega (arith, g, q)))))
    (λ (g : m < 2 * era_months). rw (le-leb era_months m h, lt-ltb m (2 * era_months) g) (sym (eq-eqb (m / era_months) 1 (omega (arith, h, g)))))
    (le_or_lt (2 * era_months) m))
    (λ (h : m < era_months). rw (lt-leb era_months m h) (sym (ne_eqb (m / era_months) 1 (λ q. omega (arith, h, q)))))
    (le_or_lt era_months m)

-- it begins and ends at two heads alone
same_era : (m : ℕ) → ¬ (suc m ≡ era_months) → ¬ (suc m ≡ 2 * era_months) → eqb (suc m / era_months) 1 ≡ eqb (m / era_months) 1
same_era m a b =
    ⊎_elim
    (λ (h : era_months ≤ suc m). ⊎_elim
    (λ (g : 2 * era_months ≤ suc m). ne_eqb (suc m / era_months) 1 (λ q. omega (arith, g, q)) ∙ sym (ne_eqb (m / era_months) 1 (λ q. b (omega (arith, g, q)))))
    (λ (g : suc m < 2 * era_months). eq-eqb (suc m / era_months) 1 (omega (arith, h, g)) ∙ sym (eq-eqb (m / era_months) 1 (omega (arith, a, h, g))))
    (le_or_lt (2 * era_months) (suc m)))
    (λ (h : suc m < era_months). ne_eqb (suc m / era_months) 1 (λ q. omega (arith, h, q)) ∙ sym (ne_eqb (m / era_months) 1 (λ q. omega (arith, h, q))))
    (le_or_lt era_months (suc m))

-- the side stepped from month m to the next: turned where a node is passed on the way; month 0 counts as outside
abbrev pub stepped_side : ℕ → Side
stepped_side m = pick (leb M (m * P % M + P)) (turned (counted_side m)) (counted_side m)

-- THE SIDE STEPPED FROM THE MONTH BEFORE IS RIGHT at every month but two heads
pub stepped_right : (m : ℕ) → suc m < round_months → ¬ (suc m ≡ era_months) → ¬ (suc m ≡ 2 * era_months) → stepped_side m ≡ side_of (suc m)
stepped_right m h x y =
    let now = side_since_origin m (omega arith) in
    let then = side_turns (suc m) (omega arith) h in
    let era = same_era m x y in
    ⊎_elim
    (λ (g : M ≤ m * P % M + P).
    let t : 1 + turns m ≡ turns (suc m) = rw era (omega (arith, g)) in
    rw (le-leb M (m * P % M + P) g, now, then) (turned_on 1 (turns m) ∙ ap after t))
    (λ (g : m * P % M + P < M).
    let t : turns m ≡ turns (suc m) = rw era (omega (arith, g)) in
    rw (lt-leb M (m * P % M + P) g, now, then) (ap after t))
    (le_or_lt M (m * P % M + P))

-- AND WRONG AT THE HEADS JIAXU AND JIASHEN, months 2,085,300 and 4,170,600: inside for outside, and outside for inside
pub stepped_wrong :
    (side_of era_months ≡ Side.Outside) × (stepped_side (era_months - 1) ≡ Side.Inside) × (side_of (2 * era_months) ≡ Side.Inside) × (stepped_side (2 * era_months - 1) ≡ Side.Outside)
unfolding side_of passed
stepped_wrong = (refl, refl, refl, refl)
