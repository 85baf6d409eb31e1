-- The check of a block (02 §6).
-- Assumes nothing.
use Rattle.std.specs.Prelude.{Bool, List, [], ◌∷◌, ℕ, ◌+◌, ◌*◌, ◌%◌, eqb, take}
use Rattle.blocks.specs.Bytes.{value16}

-- the sum of (i + 1) times byte i; the first of the bytes is byte i
unfoldable pub weighted : ℕ → List ℕ → ℕ
weighted i [] = 0
weighted i (b ∷ bs) = (i + 1) * b + weighted (i + 1) bs

abbrev pub modulus : ℕ
modulus = 65521

abbrev pub check_of : List ℕ → ℕ
check_of bs = weighted 0 bs % modulus

-- a block's last two bytes, as a number, are the check of the 510 before them
unfoldable pub right_check : List ℕ → Bool
right_check block = eqb (check_of (take 510 block)) (value16 block 510)
