-- Where a walk by months comes to is where the walk comes to that carries the row by each count.
-- Assumes nothing.
use Rattle.std.proofs.Common.{◌≡◌, ℕ, ◌<◌, List, ℤ, pos, ◌-ℤ◌, refl, sym, ap, ◌∙◌}
use Rattle.walking.specs.Walk.{Calendar, walk, total, number, walked}
use Rattle.walking.specs.declared.Walked.{Walked}
use Rattle.walking.specs.Paper.{final_month, arrival_of}
use Rattle.walking.proofs.Walks.{Lawful, row_genuine, kept}
use Rattle.walking.proofs.Sums.{sum_is}

module _ {R : Type 0} (C : Calendar R) (L : Lawful C) (m : ℕ) (h : m < C.size) (cs : List ℤ) where
  pub arrived_row : C.row (arrival_of C.size m cs).month ≡ walk C (C.row m) cs
  arrived_row = sym (kept C L cs m h).row

  pub arrived_sum : (arrival_of C.size m cs).sum ≡ total C (C.row m) cs
  arrived_sum =
      sym (sum_is C L (C.row m) (row_genuine C L m h) cs ∙ ap (λ (k : ℕ). pos (final_month C.size k cs) -ℤ pos k) (L.month_row_lem m h))

  pub arrived_number : (arrival_of C.size m cs).answered ≡ number C (C.row m) cs
  arrived_number = sym (kept C L cs m h).hits

  -- all three together
  pub arrived : ◌≡◌ {A = Walked R} (let a = arrival_of C.size m cs in record { row = C.row a.month; sum = a.sum; answered = a.answered }) (walked C (C.row m) cs)
  arrived = rw (arrived_row, arrived_sum, arrived_number) refl
