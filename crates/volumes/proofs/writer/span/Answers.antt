use native.Mathlib.Omega.{arith}
use mathlib.Core.Path.{◌≡◌}
use mathlib.Core.Bool.{true, ◌&&◌}
use Prim.Native.Nat.{◌≤◌}
use borrow.Author.Tests.{le-leb, lt-leb}
use Rattle.reckoning.proofs.Searches.{both_right}
use Rattle.units.specs.Xinghe.{round_years, is_year}
use Rattle.volumes.specs.Writer.{span_answer}
use Rattle.volumes.proofs.Runs.{year_high}
use Rattle.volumes.proofs.writer.span.Goals as goal

pub overflow_add-result : goal.overflow_add-result
overflow_add-result c =
    let years : (let x = c.args in is_year x.first && is_year x.last ≡ true) = rw (← c.is_year.ensures, ← c.is_year-2.ensures) c.if-is_year.true in
    let last_year : c.args.last ≤ round_years = let x = c.args in
    year_high x.last (both_right (is_year x.first) (is_year x.last) (rw years tt)) in
    omega (arith, last_year)

pub returns-then-first-last : goal.returns-then-first-last
unfolding span_answer
returns-then-first-last c =
    let years : (let x = c.args in is_year x.first && is_year x.last ≡ true) = rw (← c.is_year.ensures, ← c.is_year-2.ensures) c.if-is_year.true in
    rw (years, le-leb _ _ c.if-first-last.true)

pub returns-else-first-last : goal.returns-else-first-last
unfolding span_answer
returns-else-first-last c =
    let years : (let x = c.args in is_year x.first && is_year x.last ≡ true) = rw (← c.is_year.ensures, ← c.is_year-2.ensures) c.if-is_year.true in
    rw (years, lt-leb _ _ c.if-first-last.false)

pub returns-else-is_year : goal.returns-else-is_year
unfolding span_answer
returns-else-is_year c = rw (← c.is_year.ensures, ← c.is_year-2.ensures, c.if-is_year.false)
