-- What a walk comes to, beside its last row.
-- Assumes nothing.
use Rattle.std.specs.Prelude.{List, [], ◌∷◌, ℕ, ℤ}
use Rattle.anomaly.specs.Amounts.{sized_of}
use Rattle.walking.specs.Fields.{bit_of}

-- the sum of the answered counts by its sign and size, and how many were answered
abbrev pub totals_fields : ℤ → ℕ → List ℕ
totals_fields sum answered = bit_of (sized_of sum).minus ∷ (sized_of sum).size ∷ answered ∷ []
