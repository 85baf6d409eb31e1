-- How far a walk comes: from a genuine row, the sum of the answered counts is the month in which the walk ends less the month of the row.
-- Assumes nothing.
use Rattle.std.proofs.Common.{◌≡◌, true, List, ℤ, pos, ◌-ℤ◌, sym}
use lib.IntN.{+ℤ_comm, +ℤ-neg_ℤ_cancel}
use Rattle.walking.specs.Walk.{Calendar, genuine, total}
use Rattle.walking.specs.Paper.{final_month}
use Rattle.walking.proofs.Walks.{Lawful}
use Rattle.walking.proofs.Theorem.{demand_3}

pub sum_is : {R : Type 0} (C : Calendar R) → Lawful C → (r : R) → genuine C r ≡ true → (cs : List ℤ) → total C r cs ≡ pos (final_month C.size (C.month r) cs) -ℤ pos (C.month r)
sum_is C L r g cs =
    let w = demand_3 C L r g cs in
    rw (w.sum, +ℤ_comm (pos (C.month r)) (total C r cs)) (sym (+ℤ-neg_ℤ_cancel (total C r cs) (pos (C.month r))))
