-- Choices, bounded searches and repetition, as the other definitions use them. Each computes.
-- Assumes nothing.
use Rattle.std.specs.Prelude.{Bool, true, false, ◌&&◌, cond, List, [], ◌∷◌, ℕ, zero, suc, ◌+◌, leb, ltb}

-- the first if the test passes, else the second
abbrev pub pick {ℓ} : {A : Type ℓ} → Bool → A → A → A
pick true a b = a
pick false a b = b

-- a ≤ x < b
unfoldable pub between : ℕ → ℕ → ℕ → Bool
between a x b = leb a x && ltb x b

-- the test passes at one of the first n numbers
unfoldable pub any : (ℕ → Bool) → ℕ → Bool
any f zero = false
any f (suc n) = pick (f n) true (any f n)

-- the test passes at each of the first n numbers
abbrev pub all : (ℕ → Bool) → ℕ → Bool
all f zero = true
all f (suc n) = f n && all f n

-- at how many of the first n numbers the test passes
unfoldable pub count : (ℕ → Bool) → ℕ → ℕ
count f zero = 0
count f (suc n) = count f n + cond (f n) 1 0

-- the first of the n numbers from p on at which the test passes; 0 if there is none
unfoldable pub first_from : (ℕ → Bool) → ℕ → ℕ → ℕ
first_from f p zero = 0
first_from f p (suc n) = pick (f p) p (first_from f (suc p) n)

-- f at each of the n numbers from p on, in order
unfoldable pub list_from : {A : Type 0} → (ℕ → A) → ℕ → ℕ → List A
list_from f p zero = []
list_from f p (suc n) = f p ∷ list_from f (suc p) n

-- f applied n times
unfoldable pub times : {A : Type 0} → ℕ → (A → A) → A → A
times zero f a = a
times (suc n) f a = f (times n f a)
