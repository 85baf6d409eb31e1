-- Signed counts as the code takes them apart.
-- Assumes nothing.
use Rattle.std.specs.Prelude.{Result, Ok, Err, ℕ, ◌-◌, Bool, ℤ, pos, negsuc, ◌+ℤ◌, unsigned_abs, Option, Some, None}
use Rattle.reckoning.specs.Search.{pick}
use Rattle.walking.specs.Walk.{in_round}
use Rattle.walking.specs.declared.Sign.{Sign}
use Rattle.refusal.specs.declared.Refusal.{Refusal}

-- n is Up n, and -(n + 1) is Down n
abbrev pub sign_of : ℤ → Sign
sign_of (pos n) = Sign.Up n
sign_of (negsuc n) = Sign.Down n

-- the unsigned number with the same 64 bits: 2^64 more where the number is negative
abbrev pub bits_of : ℤ → ℕ
bits_of (pos n) = n
bits_of (negsuc n) = 18446744073709551615 - n

-- month z of a round of that size, where there is one
abbrev pub target_of : ℕ → ℤ → Option ℕ
target_of size z = pick (in_round size z) (Some (unsigned_abs z)) None

-- what a carry of month m by a count comes to, where what was handed in for its row is genuine or isn't: the month so many months on, in whole numbers;
-- refused under 4 where it isn't genuine, then under 5 where that is no month of the round
abbrev pub landing_of : ℕ → Bool → ℕ → ℤ → Result ℕ Refusal
landing_of size ok m c = pick ok (pick (in_round size (pos m +ℤ c)) (Ok (unsigned_abs (pos m +ℤ c))) (Err Refusal.Carry)) (Err Refusal.Row)
