use mathlib.Core.Path.{◌≡◌}
use lib.ListN.{length}
use Rattle.reckoning.specs.Search as search-specs
use Rattle.mending.specs.FirstYear.{implies_at}
use Rattle.mending.proofs.Chunks.{Counted}
use Rattle.mending.proofs.all_imply.Given as goal

abbrev pub invariant-loop-i : goal.invariant-loop-i
invariant-loop-i l = Counted l.volume l.n (length l.yielded) l.i-iterator × (l.imply ≡ search-specs.all (implies_at l.volume l.first) (length l.yielded))
