-- A year by value, place by place.
-- Assumes nothing.
use mathlib.Core.Path.{◌≡◌}
use Prim.Native.Nat.{ℕ, ◌<◌}
use lib.ListN.{get_or}
use Rattle.reckoning.proofs.Lists.{at_place}
use Rattle.mean_year.specs.Years.{places}
use Rattle.zhengguang.specs.Answers.{zero_row}
use Rattle.zhengguang.specs.Years.{row_at, year_rows}

-- AT EACH PLACE STANDS THE ROW THAT IS ANSWERED FOR IT, and zeros where none is
pub each_place : (n p : ℕ) → p < places → get_or (year_rows n).rows p zero_row ≡ row_at n p
each_place n p h = at_place (row_at n) zero_row places p h
