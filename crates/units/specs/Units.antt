-- The units (01, "Numbers that everything stands on"): a remainder over N and a remainder over D are of two types, and carried each over its own divisor.
-- Assumes nothing.
use Rattle.std.specs.Prelude.{ℕ, ◌+◌, ◌/◌, ◌%◌}
use Rattle.units.specs.Xinghe.{N, D}
use Rattle.units.specs.declared.remainder.Remainder.{Remainder}
use Rattle.units.specs.declared.remainder.Carry.{Carry}

abbrev pub DayRemainder : Type 0
DayRemainder = Remainder N

abbrev pub DegreeRemainder : Type 0
DegreeRemainder = Remainder D

abbrev pub DayCarry : Type 0
DayCarry = Carry N

abbrev pub DegreeCarry : Type 0
DegreeCarry = Carry D

-- parts over a divisor added to a remainder over it: each whole divisor is a day, or a degree
abbrev pub carry_over : (divisor : ℕ) → Remainder divisor → ℕ → Carry divisor
carry_over divisor r parts = record { whole = (r.parts + parts) / divisor; remainder = record { parts = (r.parts + parts) % divisor } }

-- over N, and over D
abbrev pub day_carry : DayRemainder → ℕ → DayCarry
day_carry = carry_over N

abbrev pub degree_carry : DegreeRemainder → ℕ → DegreeCarry
degree_carry = carry_over D
