-- What the rest of a calendar needs of its leap rule, as one record: rows, leap places, dates and walks know these laws only.
-- Assumes nothing.
use mathlib.Core.Path.{◌≡◌}
use Prim.Native.Nat.{ℕ, suc, ◌+◌, ◌*◌, ◌≤◌, ◌<◌}
use lib.Dec.{T}
use Rattle.reckoning.specs.Rule.{Rule}

pub record Laws (R : Rule) : Type 0 where
  -- the month that holds term j, and no other does
  pub month : ℕ → ℕ
  pub held : (j : ℕ) → T (R.holds (month j) j)
  pub only : (m j : ℕ) → T (R.holds m j) → m ≡ month j
  -- the terms rise through the months, by one at least from each to the next and by thirteen at most through any twelve
  pub start : month 0 ≡ 0
  pub rise : (j : ℕ) → month j < month (suc j)
  pub span : (j : ℕ) → month (j + 12) ≤ month j + 13
  -- a year begins with the month that holds its first term
  pub opens : (y : ℕ) → R.before y ≡ month (12 * y)
