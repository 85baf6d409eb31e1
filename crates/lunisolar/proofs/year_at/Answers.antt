use native.Mathlib.Omega.{arith}
use mathlib.Core.Path.{refl}
use Prim.Native.Nat.{◌+◌}
use Rattle.reckoning.proofs.Searches.{below, beyond, inside}
use Rattle.lunisolar.specs.Calendars.{year_at}
use Rattle.lunisolar.proofs.year_at.Goals as goal

pub returns-then-year-k : goal.returns-then-year-k
unfolding year_at
returns-then-year-k c = let a = c.args in rw (below a.k.constants.first a.year (a.k.constants.first + a.k.constants.years) c.if-year-k.true)

pub returns-then-k-past : goal.returns-then-k-past
unfolding year_at
returns-then-k-past c = let a = c.args in rw (beyond a.k.constants.first a.year (a.k.constants.first + a.k.constants.years) (omega arith))

pub returns : goal.returns
unfolding year_at
returns c = let a = c.args in rw (inside a.k.constants.first a.year (a.k.constants.first + a.k.constants.years) (omega arith) (omega arith)) refl
