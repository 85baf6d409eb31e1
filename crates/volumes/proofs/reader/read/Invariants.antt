use mathlib.Core.Path.{◌≡◌}
use lib.ListN.{length}
use Rattle.volumes.specs.Stream.{reader_after}
use Rattle.volumes.proofs.Chunks.{Given}
use Rattle.volumes.proofs.reader.read.Given as goal

abbrev pub invariant-loop-part : goal.invariant-loop-part
invariant-loop-part l = Given l.volume (length l.yielded) l.part-iterator × (l.reader ≡ reader_after l.volume (length l.yielded))
