use mathlib.Core.Path.{◌≡◌}
use Prim.Native.Nat.{◌+◌, ◌*◌, ◌≤◌}
use lib.ListN.{take}
use Rattle.blocks.specs.Check.{weighted}
use Rattle.blocks.proofs.check.weigh.Given as goal

abbrev pub invariant-loop-byte : goal.invariant-loop-byte
invariant-loop-byte l = (l.sum ≡ weighted l.past (take l.byte-index l.bytes)) × (l.sum ≤ 131070 * l.byte-index) × (l.weight ≡ l.byte-index + 1)
