-- Numbers as bytes, little-endian, and back (02 §6).
-- Assumes nothing.
use Rattle.std.specs.Prelude.{Bool, true, false, ◌&&◌, List, [], ◌∷◌, ℕ, ◌+◌, ◌*◌, ◌/◌, ◌%◌, eqb, get_or, replicate}

-- a number in four bytes, and in two, the lowest first
abbrev pub le32 : ℕ → List ℕ
le32 x = x % 256 ∷ x / 256 % 256 ∷ x / 65536 % 256 ∷ x / 16777216 % 256 ∷ []

abbrev pub le16 : ℕ → List ℕ
le16 x = x % 256 ∷ x / 256 % 256 ∷ []

abbrev pub zeros : ℕ → List ℕ
zeros n = replicate n 0

-- the numbers that the four or two bytes from a place on mean
abbrev pub value32 : List ℕ → ℕ → ℕ
value32 bs at = get_or bs at 0 + 256 * get_or bs (at + 1) 0 + 65536 * get_or bs (at + 2) 0 + 16777216 * get_or bs (at + 3) 0

abbrev pub value16 : List ℕ → ℕ → ℕ
value16 bs at = get_or bs at 0 + 256 * get_or bs (at + 1) 0

-- two lists hold the same bytes
unfoldable pub same : List ℕ → List ℕ → Bool
same [] [] = true
same [] (y ∷ ys) = false
same (x ∷ xs) [] = false
same (x ∷ xs) (y ∷ ys) = eqb x y && same xs ys
