use native.Mathlib.Omega.{arith}
use mathlib.Core.Path.{◌≡◌, ◌∙◌, sym}
use Prim.Native.Nat.{suc, ◌*◌, ◌≤◌, ℕ, ◌+◌}
use native.Mathlib.Numerals.{add-one}
use mathlib.Core.Bool.{Bool}
use lib.Dec.{leb}
use Rattle.lunisolar.specs.declared.Constants.{Constants}
use borrow.Author.Tests.{leb-true, leb-false}
use Rattle.reckoning.specs.Means.{new_moon, term_day}
use Rattle.reckoning.proofs.Days.{months_over, months_under}
use Rattle.lunisolar.specs.Calendars.{means_of}
use Rattle.lunisolar.proofs.Laws.{before_bound}
use Rattle.lunisolar.proofs.rule.months_from.Goals as goal

room : (a : goal.Start) → a.args.count ≤ 13 * a.args.y
room a = omega (arith, a.requires.1, before_bound a.args.k.constants a.args.k.sound a.args.y)

-- the code's test, with the month after so many as a successor
test : (k : Constants) (y count : ℕ) (r : Bool) → r ≡ leb (new_moon (means_of k) (count + 1)) (term_day (means_of k) (12 * y)) → r ≡ leb (new_moon (means_of k) (suc count)) (term_day (means_of k) (12 * y))
test k y count r e = rw (← add-one count) e

pub overflow_add-count : goal.overflow_add-count
overflow_add-count c = omega (arith, room c)

pub term_reaches-requires : goal.term_reaches-requires
term_reaches-requires c = (omega (arith, c.requires.0), omega (arith, c.requires.0, room c))

pub overflow_add-result : goal.overflow_add-result
overflow_add-result c = omega (arith, room c.before.before)

pub returns-then-term_reaches : goal.returns-then-term_reaches
returns-then-term_reaches c =
    let h = leb-true _ _ (sym (test c.args.k.constants c.args.y c.args.count _ c.term_reaches.ensures) ∙ c.if-term_reaches.true) in
    omega (arith, c.requires.2, months_over (means_of c.args.k.constants) c.args.k.sound.moon c.args.k.sound.sun c.args.y c.args.count h)

pub returns-else-term_reaches : goal.returns-else-term_reaches
returns-else-term_reaches c =
    let h = leb-false _ _ (sym (test c.args.k.constants c.args.y c.args.count _ c.term_reaches.ensures) ∙ c.if-term_reaches.false) in
    omega (arith, c.requires.1, months_under (means_of c.args.k.constants) c.args.k.sound.moon c.args.k.sound.sun c.args.y (suc c.args.count) h)
