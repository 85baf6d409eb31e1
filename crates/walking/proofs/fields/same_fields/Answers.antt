use Rattle.std.proofs.Common.{◌≡◌, length, arith}
use Rattle.walking.specs.Fields.{same_fields}
use Rattle.walking.proofs.fields.same_fields.Goals as goal

pub returns : goal.returns
unfolding same_fields
returns c = let e : c.loop-i.i ≡ length c.args.a.now = omega arith in rw e at c.loop-i.invariant
