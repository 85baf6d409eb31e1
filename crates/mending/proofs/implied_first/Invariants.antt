use Prim.Native.Nat.{ℕ, ◌<◌}
use lib.Dec.{T}
use lib.ListN.{length}
use Rattle.mending.specs.FirstYear.{sound_at}
use Rattle.mending.proofs.Chunks.{Counted}
use Rattle.mending.proofs.implied_first.Given as goal

abbrev pub invariant-loop-i : goal.invariant-loop-i
invariant-loop-i l = Counted l.volume l.n (length l.yielded) l.i-iterator × ((q : ℕ) → q < length l.yielded → ¬ (T (sound_at l.volume q)))
