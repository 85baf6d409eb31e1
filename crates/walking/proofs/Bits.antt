-- Yes and no as numbers.
-- Assumes nothing.
use Rattle.std.proofs.Common.{◌≡◌, ℕ, ◌≤◌, Bool, true, false, eqb, sym, refl, ap, ◌∙◌, arith}
use mir.Val.{bool_byte}
use Rattle.walking.specs.Fields.{bit_of}

-- as the language casts them
pub as_number : (yes : Bool) → bool_byte yes ≡ bit_of yes
as_number true = refl
as_number false = refl

-- each is told by its number, which is 0 or 1
pub bit_eq : (a b : Bool) → bit_of a ≡ bit_of b → a ≡ b
bit_eq a b e = told a ∙ ap (λ (n : ℕ). eqb n 1) e ∙ sym (told b)
  where
    told : (b : Bool) → b ≡ eqb (bit_of b) 1
    told true = refl
    told false = refl

pub bit_most : (b : Bool) → bit_of b ≤ 1
bit_most true = omega arith
bit_most false = omega arith
