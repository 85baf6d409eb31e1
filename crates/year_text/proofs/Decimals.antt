-- Decimal digits: how many there are, that they are digits with no leading zero, and that reading undoes writing.
-- Assumes nothing.
use mathlib.Core.Path.{◌≡◌, sym, ap, ◌∙◌}
use mathlib.Core.Bool.{true}
use mathlib.Core.Logic.{⊎_elim}
use mathlib.Core.List.{List, [], ◌∷◌, ◌++◌}
use Prim.Native.Nat.{ℕ, zero, suc, ◌+◌, ◌*◌, ◌/◌, ◌%◌, ◌≤◌, ◌<◌}
use native.Mathlib.Omega.{arith}
use lib.Dec.{lit≤}
use lib.ListN.{length, get_or, length-append, get_or-append}
use borrow.Author.Tests.{lt-ltb, le-ltb}
use Rattle.reckoning.proofs.Searches.{le_or_lt}
use Rattle.year_text.specs.Decimal.{decimal_up_to, decimal, all_digits, value_from, value}
use Rattle.year_text.proofs.Readings.{all_more, value_more, digit}

-- ten to the f + 1
unfoldable tens : ℕ → ℕ
tens zero = 10
tens (suc f) = 10 * tens f

-- at most f + 1 digits
few : (f n : ℕ) → length (decimal_up_to f n) ≤ f + 1
unfolding decimal_up_to
few zero n = omega arith
few (suc f) n =
    ⊎_elim
    (λ (h : 10 ≤ n). rw (le-ltb n 10 h) (omega (arith, length-append (decimal_up_to f (n / 10)) ((48 + n % 10) ∷ []), few f (n / 10))))
    (λ (h : n < 10). rw (lt-ltb n 10 h) (omega arith))
    (le_or_lt 10 n)

pub at_most_20 : (n : ℕ) → length (decimal n) ≤ 20
at_most_20 n = few 19 n

-- room for more digits changes nothing where there are none
more_room : (f n : ℕ) → n < tens f → decimal_up_to f n ≡ decimal_up_to (suc f) n
unfolding decimal_up_to tens
more_room zero n h = rw (lt-ltb n 10 h)
more_room (suc f) n h =
    ⊎_elim
    (λ (g : 10 ≤ n). rw (le-ltb n 10 g) (ap (λ (l : List ℕ). l ++ ((48 + n % 10) ∷ [])) (more_room f (n / 10) (omega arith))))
    (λ (g : n < 10). rw (lt-ltb n 10 g))
    (le_or_lt 10 n)

-- one digit, or those of the tenth and the last
pub one_digit : (n : ℕ) → n < 10 → decimal n ≡ (48 + n % 10) ∷ []
unfolding decimal_up_to
one_digit n h = rw (lt-ltb n 10 h)

pub last_digit : (n : ℕ) → 10 ≤ n → n < 18446744073709551616 → decimal n ≡ decimal (n / 10) ++ ((48 + n % 10) ∷ [])
unfolding decimal_up_to tens
last_digit n h b = rw (le-ltb n 10 h) (ap (λ (l : List ℕ). l ++ ((48 + n % 10) ∷ [])) (more_room 18 (n / 10) (omega (arith, room))))
  where
    room : 1844674407370955162 ≤ tens 18
    room = lit≤ tt

-- at least one
some : (f n : ℕ) → 0 < length (decimal_up_to f n)
unfolding decimal_up_to
some zero n = omega arith
some (suc f) n =
    ⊎_elim
    (λ (h : 10 ≤ n). rw (le-ltb n 10 h) (omega (arith, length-append (decimal_up_to f (n / 10)) ((48 + n % 10) ∷ []))))
    (λ (h : n < 10). rw (lt-ltb n 10 h) (omega arith))
    (le_or_lt 10 n)

-- DECIMAL TEXT is digits only
all_digits_lem : (f n : ℕ) → all_digits (decimal_up_to f n) ≡ true
unfolding decimal_up_to all_digits
all_digits_lem zero n = rw (digit (48 + n % 10) (omega arith) (omega arith))
all_digits_lem (suc f) n =
    ⊎_elim
    (λ (h : 10 ≤ n). rw (le-ltb n 10 h, all_more (decimal_up_to f (n / 10)) (48 + n % 10), all_digits_lem f (n / 10)) (digit (48 + n % 10) (omega arith) (omega arith)))
    (λ (h : n < 10). rw (lt-ltb n 10 h, digit (48 + n % 10) (omega arith) (omega arith)))
    (le_or_lt 10 n)

-- READING UNDOES WRITING
back : (f n : ℕ) → n < tens f → value (decimal_up_to f n) ≡ n
unfolding decimal_up_to value_from tens
back zero n h = omega arith
back (suc f) n h =
    ⊎_elim
    (λ (g : 10 ≤ n). rw (le-ltb n 10 g) (omega (arith, value_more (decimal_up_to f (n / 10)) 0 (48 + n % 10), back f (n / 10) (omega arith))))
    (λ (g : n < 10). rw (lt-ltb n 10 g) (omega arith))
    (le_or_lt 10 n)

pub read_back : (n : ℕ) → n < 18446744073709551616 → (all_digits (decimal n) ≡ true) × (value (decimal n) ≡ n)
unfolding tens
read_back n h = (all_digits_lem 19 n, back 19 n (omega (arith, room)))
  where
    room : 18446744073709551616 ≤ tens 19
    room = lit≤ tt

-- and no number but 0 begins with a zero
no_zero : (f n : ℕ) → 0 < n → n < tens f → ¬ (get_or (decimal_up_to f n) 0 0 ≡ 48)
unfolding decimal_up_to tens
no_zero zero n p h e = omega arith
no_zero (suc f) n p h e =
    ⊎_elim
    (λ (g : 10 ≤ n). no_zero f (n / 10) (omega arith) (omega arith)
    (sym (get_or-append (decimal_up_to f (n / 10)) ((48 + n % 10) ∷ []) 0 0 (some f (n / 10))) ∙ (rw (le-ltb n 10 g) at e)))
    (λ (g : n < 10). let z = rw (lt-ltb n 10 g) at e in omega arith)
    (le_or_lt 10 n)

pub no_leading_zero : (n : ℕ) → 0 < n → n < 18446744073709551616 → ¬ (get_or (decimal n) 0 0 ≡ 48)
unfolding tens
no_leading_zero n p h = no_zero 19 n p (omega (arith, room))
  where
    room : 18446744073709551616 ≤ tens 19
    room = lit≤ tt
