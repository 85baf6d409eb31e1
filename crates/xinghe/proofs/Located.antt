-- What the two numbers that xinghe_label writes mean to its caller.
-- Assumes nothing.
use Rattle.refusal.specs.Numbers.{answer_number}
use mathlib.Core.Path.{◌≡◌, refl}
use mathlib.Core.List.{List}
use Prim.Native.Nat.{ℕ, zero, suc, ◌+◌}
use native.Mathlib.Omega.{arith}
use lib.ListN.{get_or}
use Rattle.names.specs.Names.{name_bytes, Bytes, size, slice, name_from, label_location, label_of, label_number}
use Rattle.names.proofs.Locations.{location_cases}
use Rattle.fields.specs.Fields.{location_fields}

-- list 1 is theirs, list 2 the house's, and no other is one
abbrev pub numbered : ℕ → Bytes → Bytes → Bytes
numbered zero theirs house = slice theirs 0 0
numbered (suc zero) theirs house = theirs
numbered (suc (suc n)) theirs house = house

-- the six bytes of that list from the second number on
abbrev pub six_bytes : List ℕ → Bytes → Bytes → Bytes
six_bytes out theirs house = slice (numbered (get_or out 0 0) theirs house) (get_or out 1 0) (get_or out 1 0 + name_bytes)

-- ANSWERED, THEY ARE THE LABEL
pub located : (i : ℕ) (theirs house : Bytes) → label_number i theirs house ≡ 0 → six_bytes (location_fields (label_location i theirs house)) theirs house ≡ label_of i theirs house
located i theirs house =
    location_cases i (size theirs) (size house) (λ a. answer_number a ≡ 0 → six_bytes (location_fields a) theirs house ≡ name_from a theirs house)
    (λ _ _ _. refl)
    (λ _ _ _ _. refl)
    (λ _ _ _ q. absurd (omega (arith, q)))
    (λ _ q. absurd (omega (arith, q)))
