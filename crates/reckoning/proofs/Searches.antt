-- The laws of choices and bounded searches.
-- Assumes nothing.
use mathlib.Core.Path.{◌≡◌, refl, subst, ap, ◌∙◌}
use mathlib.Core.Logic.{◌⊎◌, inl, inr, ⊎_elim, ◌≢◌}
use mathlib.Core.Bool.{Bool, true, false, ◌&&◌}
use Prim.Native.Nat.{ℕ, zero, suc, ◌+◌, ◌≤◌, ◌<◌}
use native.Mathlib.Omega.{arith}
use borrow.Author.Tests.{leb-true, leb-false, ltb-false}
use lib.Dec.{T, leb, ltb, le→leb, leb→le, lt→ltb, ltb→lt}
use lib.ListN.{get_or}
use Rattle.reckoning.specs.Search.{pick, between, any, all, first_from, list_from}

pub T_true : (b : Bool) → T b → b ≡ true
T_true true t = refl
T_true false t = absurd t

pub T_false : (b : Bool) → ¬ (T b) → b ≡ false
T_false true h = absurd (h tt)
T_false false h = refl

pub decide : (b : Bool) → (T b) ⊎ (¬ (T b))
decide true = inl tt
decide false = inr (λ t. t)

-- a choice that did not come to the second is the first, and its test passed
pub chosen : {A : Type 0} (b : Bool) (x z w : A) → w ≡ pick b x z → ¬ (w ≡ z) → (T b) × (w ≡ x)
chosen true x z w e n = (tt, e)
chosen false x z w e n = absurd (n e)

-- what is made of a choice is a choice of what is made
pub through : {A : Type 0} {B : Type 0} (f : A → B) (b : Bool) (x z : A) → f (pick b x z) ≡ pick b (f x) (f z)
through f true x z = refl
through f false x z = refl

-- what holds of both sides where they are chosen holds of a choice
pub pick_cases : {A : Type 0} (P : A → Type 0) (b : Bool) (x z : A) → (T b → P x) → (¬ (T b) → P z) → P (pick b x z)
pick_cases P true x z f g = f tt
pick_cases P false x z f g = g (λ t. t)

pub le_or_lt : (a b : ℕ) → (a ≤ b) ⊎ (b < a)
le_or_lt a b = go (leb a b) refl
  where
    go : (t : Bool) → leb a b ≡ t → (a ≤ b) ⊎ (b < a)
    go true e = inl (leb-true a b e)
    go false e = inr (leb-false a b e)

pub same_or : (a b : ℕ) → (a ≡ b) ⊎ (a ≢ b)
same_or a b =
    ⊎_elim
    (λ (h : a ≤ b). ⊎_elim (λ (g : b ≤ a). inl (omega arith)) (λ (g : a < b). inr (omega arith)) (le_or_lt b a))
    (λ (h : b < a). inr (omega arith))
    (le_or_lt a b)

pub not_ltb : (a b : ℕ) → ¬ (T (ltb a b)) → b ≤ a
not_ltb a b h = ltb-false a b (T_false (ltb a b) h)

pub both_left : (a b : Bool) → T (a && b) → T a
both_left true b t = tt
both_left false b t = t

pub both_right : (a b : Bool) → T (a && b) → T b
both_right true b t = t
both_right false b t = absurd t

pub both_T : (a b : Bool) → T a → T b → T (a && b)
both_T true b s t = t
both_T false b s t = s

-- two tests that pass together are one
pub together : (a b : Bool) → (T a → T b) → (T b → T a) → a ≡ b
together true true f g = refl
together true false f g = absurd (f tt)
together false true f g = absurd (g tt)
together false false f g = refl

module _ (a x b : ℕ) where
  pub between_T : a ≤ x → x < b → T (between a x b)
  unfolding between
  between_T lo hi = both_T (leb a x) (ltb x b) (le→leb a x lo) (lt→ltb x b hi)

  pub between_low : T (between a x b) → a ≤ x
  unfolding between
  between_low t = leb→le a x (both_left (leb a x) (ltb x b) t)

  pub between_high : T (between a x b) → x < b
  unfolding between
  between_high t = ltb→lt x b (both_right (leb a x) (ltb x b) t)

  -- the test as an equation: inside, below, past the end
  pub inside : a ≤ x → x < b → between a x b ≡ true
  inside lo hi = T_true (between a x b) (between_T lo hi)

  pub below : x < a → between a x b ≡ false
  below h = T_false (between a x b) (λ t. omega (arith, between_low t))

  pub beyond : b ≤ x → between a x b ≡ false
  beyond h = T_false (between a x b) (λ t. omega (arith, between_high t))

module _ (f : ℕ → Bool) where
  moved : {a b : ℕ} → a ≡ b → T (f a) → T (f b)
  moved e t = subst (λ (x : ℕ). T (f x)) e t

  pub first_is : (n p l : ℕ) → p ≤ l → l < p + n → T (f l) → ((q : ℕ) → p ≤ q → q < l → ¬ (T (f q))) → first_from f p n ≡ l
  unfolding first_from
  first_is zero p l lo hi t none = absurd (omega arith)
  first_is (suc n) p l lo hi t none =
      ⊎_elim
      (λ (e : l ≤ p). let q : l ≡ p = omega arith in rw (T_true (f p) (moved q t)) (omega arith))
      (λ e. rw (T_false (f p) (none p (omega arith) e)) (first_is n (suc p) l e (omega arith) t (λ q a b. none q (omega arith) b)))
      (le_or_lt l p)

  pub first_none : (n p : ℕ) → ((q : ℕ) → p ≤ q → q < p + n → ¬ (T (f q))) → first_from f p n ≡ 0
  unfolding first_from
  first_none zero p none = refl
  first_none (suc n) p none =
      rw (T_false (f p) (none p (omega arith) (omega arith)))
      (first_none n (suc p) (λ q a b. none q (omega arith) (omega arith)))

  pub any_of : (n k : ℕ) → k < n → T (f k) → T (any f n)
  unfolding any
  any_of zero k h t = absurd (omega arith)
  any_of (suc n) k h t =
      ⊎_elim
      (λ e. let q : k ≡ n = omega arith in rw (T_true (f n) (moved q t)) tt)
      (λ e. ⊎_elim (λ s. rw (T_true (f n) s) tt) (λ s. rw (T_false (f n) s) (any_of n k e t)) (decide (f n)))
      (le_or_lt n k)

  pub any_gives : (n : ℕ) → T (any f n) → (k : ℕ) × (k < n) × T (f k)
  unfolding any
  any_gives zero t = absurd t
  any_gives (suc n) t =
      ⊎_elim
      (λ s. (n, omega arith, s))
      (λ s. let r = any_gives n (rw (T_false (f n) s) at t) in (r.0, omega arith, r.2))
      (decide (f n))

  abbrev Least : ℕ → Type 0
  Least n = (l : ℕ) × (l ≤ n) × T (f l) × ((q : ℕ) → q < l → ¬ (T (f q)))

  least_from : (n : ℕ) → T (f n) → (d p : ℕ) → p + d ≡ n → ((q : ℕ) → q < p → ¬ (T (f q))) → Least n
  least_from n t zero p e none = let h : n ≡ p = omega arith in (p, omega arith, moved h t, none)
  least_from n t (suc d) p e none =
      ⊎_elim
      (λ s. (p, omega arith, s, none))
      (λ s. least_from n t d (suc p) (omega arith)
      (λ q h u. ⊎_elim (λ a. let z : q ≡ p = omega arith in s (moved z u)) (λ b. none q b u) (le_or_lt p q)))
      (decide (f p))

  -- where the test passes at n there is a first number at which it does
  pub least : (n : ℕ) → T (f n) → Least n
  least n t = least_from n t n 0 (omega arith) (λ q h. absurd (omega arith))

-- a test that passes at each number below n: computed once over a table, it is the rule at each entry
pub all_at : (f : ℕ → Bool) (n : ℕ) → T (all f n) → (k : ℕ) → k < n → T (f k)
all_at f zero t k h = absurd (omega arith)
all_at f (suc n) t k h =
    ⊎_elim
    (λ (e : n ≤ k). let q : n ≡ k = omega arith in moved f q (both_left (f n) (all f n) t))
    (λ (e : k < n). all_at f n (both_right (f n) (all f n) t) k e)
    (le_or_lt n k)

pub all_of : (f : ℕ → Bool) (n : ℕ) → ((k : ℕ) → k < n → T (f k)) → T (all f n)
all_of f zero each = tt
all_of f (suc n) each = both_T (f n) (all f n) (each n (omega arith)) (all_of f n (λ k h. each k (omega arith)))

-- a table that is the list of f's values has f's value at each entry
pub list_at : {A : Type 0} (f : ℕ → A) (d : A) (n p k : ℕ) → k < n → get_or (list_from f p n) k d ≡ f (p + k)
unfolding list_from
list_at f d zero p k h = absurd (omega arith)
list_at f d (suc n) p zero h = let e : p ≡ p + 0 = omega arith in ap f e
list_at f d (suc n) p (suc k) h = let e : suc p + k ≡ p + suc k = omega arith in list_at f d n (suc p) k (omega arith) ∙ ap f e

-- two functions that agree at the n numbers from p on have one list there
pub list_same : {A : Type 0} (f g : ℕ → A) (n p : ℕ) → ((k : ℕ) → p ≤ k → k < p + n → f k ≡ g k) → list_from f p n ≡ list_from g p n
unfolding list_from
list_same f g zero p same = refl
list_same f g (suc n) p same =
    rw (same p (omega arith) (omega arith), list_same f g n (suc p) (λ k a b. same k (omega arith) (omega arith))) refl
