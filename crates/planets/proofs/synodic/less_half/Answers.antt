use native.Mathlib.Omega.{arith}
use mathlib.Core.Path.{◌≡◌, ◌∙◌, sym}
use mathlib.Core.Bool.{true}
use Rattle.planets.specs.Conjunctions.{takes_half}
use Rattle.planets.proofs.Cases.{time_less, time_whole, is_morning}
use Rattle.planets.proofs.synodic.less_half.Goals as goal

-- the half is taken off
taken : (c : goal.After-struct_known-1) → (let a = c.args in takes_half a.k.period a.k.halved a.remaining ≡ true)
taken c = sym c.takes_half.ensures ∙ c.if-takes_half.true

pub overflow_sub-result : goal.overflow_sub-result
overflow_sub-result c = let a = c.args in omega (arith, (is_morning a.k.period a.k.halved a.remaining (taken c)).0)

pub returns-then-takes_half : goal.returns-then-takes_half
returns-then-takes_half c = let a = c.args in time_less a.k.period a.k.halved a.remaining (taken c)

pub returns-else-takes_half : goal.returns-else-takes_half
returns-else-takes_half c = let a = c.args in time_whole a.k.period a.k.halved a.remaining (sym c.takes_half.ensures ∙ c.if-takes_half.false)
