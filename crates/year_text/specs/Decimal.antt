-- Decimal digits as text: bytes 48 to 57.
-- Assumes nothing.
use Rattle.std.specs.Prelude.{Bool, true, ◌&&◌, List, [], ◌∷◌, ◌++◌, ℕ, zero, suc, ◌+◌, ◌-◌, ◌*◌, ◌/◌, ◌%◌, ltb}
use Rattle.reckoning.specs.Search.{pick, between}

-- the decimal digits of a number of at most f + 1 of them, no leading zeros: those of its tenth, and its last
unfoldable pub decimal_up_to : ℕ → ℕ → List ℕ
decimal_up_to zero n = (48 + n % 10) ∷ []
decimal_up_to (suc f) n = pick (ltb n 10) ((48 + n % 10) ∷ []) (decimal_up_to f (n / 10) ++ ((48 + n % 10) ∷ []))

-- of any 64-bit number, which has at most 20
abbrev pub decimal : ℕ → List ℕ
decimal n = decimal_up_to 19 n

-- a byte is a digit, and all bytes of a line are
unfoldable pub is_digit : ℕ → Bool
is_digit b = between 48 b 58

unfoldable pub all_digits : List ℕ → Bool
all_digits [] = true
all_digits (b ∷ bs) = is_digit b && all_digits bs

-- the number that digits mean, after one that stands for those before them
unfoldable pub value_from : ℕ → List ℕ → ℕ
value_from v [] = v
value_from v (b ∷ bs) = value_from (10 * v + (b - 48)) bs

abbrev pub value : List ℕ → ℕ
value bs = value_from 0 bs
