-- A month's leap mark and number in figures, from its year's leap place (0 for none) and its own place: what a program computes.
-- The laws `leap_at_lem` and `number_at` of proofs/Rows.antt show that the mark and the number are what specs/Rule.antt defines, and `past_leap`
-- of proofs/Leaps.antt what `leap_come` says of the middle terms.
-- Assumes nothing.
use Rattle.std.specs.Prelude.{Bool, ◌&&◌, ℕ, ◌+◌, ◌%◌, ◌≤◌, ◌<◌, leb, ltb, eqb}
use Rattle.reckoning.specs.Search.{pick}

-- the month at that place is the leap month
unfoldable pub leap_at : ℕ → ℕ → Bool
leap_at leap place = ltb 0 leap && eqb place leap

-- the leap month stands at that place or before
unfoldable pub leap_come : ℕ → ℕ → Bool
leap_come leap place = ltb 0 leap && leb leap place

-- the leap place, and where the year has none 13, which is past every place
abbrev pub leap_or_past : ℕ → ℕ
leap_or_past leap = pick (eqb leap 0) 13 leap

-- a place from which two looks, at it and at the place before, find the leap month: where the year has one, it stands there, one place before or
-- one after
abbrev pub LeapNear : ℕ → ℕ → Type 0
LeapNear leap place = 0 < leap → (place ≤ leap + 1) × (leap ≤ place + 1)

-- the month number at that place, where the leap month has come by then or hasn't
unfoldable pub number_by : Bool → ℕ → ℕ
number_by come place = (place + pick come 9 10) % 12 + 1

-- the same from the leap place
abbrev pub number_at : ℕ → ℕ → ℕ
number_at leap place = number_by (leap_come leap place) place
