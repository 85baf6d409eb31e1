use native.Mathlib.Omega.{arith}
use mathlib.Core.Path.{◌≡◌, ◌∙◌}
use mathlib.Core.Bool.{Bool, true, false}
use Prim.Native.Nat.{ℕ, ◌+◌, ◌-◌, ◌%◌}
use mir.Val.{bool_byte}
use Rattle.reckoning.specs.Figures.{number_by}
use Rattle.lunisolar.proofs.naming.number_by.Goals as goal

behind : (t : Bool) (place : ℕ) → (place + 10 - bool_byte t) % 12 + 1 ≡ number_by t place
unfolding number_by
behind true place = let e : place + 10 - 1 ≡ place + 9 = omega arith in rw e
behind false place = let e : place + 10 - 0 ≡ place + 10 = omega arith in rw e

pub returns : goal.returns
returns c = c.number_after.ensures ∙ behind c.args.come c.args.place
