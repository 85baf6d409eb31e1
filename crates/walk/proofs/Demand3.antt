-- Demand 3 at the Xinghe: for any genuine month row and any list of signed carries, refused ones included, the walk holds the row worked out from the
-- origin for the first month plus the sum of the answered counts; and the treatise's monthly addition.
-- Assumes nothing.
use Rattle.std.specs.Prelude.{Ok}
use mathlib.Core.Path.{◌≡◌, ◌∙◌, sym, ap}
use Prim.Native.Nat.{ℕ, suc, ◌+◌, ◌<◌}
use native.Mathlib.Numerals.{add-one}
use borrow.Author.Tests.{lt-ltb}
use lib.IntN.{pos}
use Rattle.walking.specs.Walk.{Genuine}
use Rattle.walking.proofs.Demand.{Demand, demand, tested}
use Rattle.units.specs.Xinghe.{round_months}
use Rattle.moon.specs.NewMoons.{monthly_addition}
use Rattle.calendar.specs.Rows.{row_of}
use Rattle.calendar.specs.Carries.{months, carried}
use Rattle.calendar.specs.declared.MonthRow.{MonthRow}
use Rattle.calendar.proofs.Lawful.{lawful}
use Rattle.calendar.proofs.Months.{moon_of, monthly}

-- WALKING AND DIRECT WORKING ARE ONE THING: for every row and every list of counts
pub demand_3 : Demand months
demand_3 = demand months lawful

-- A carry by 1 of every genuine row that has a next is answered with the next month's row, whose day and remainder are those that the treatise's
-- monthly addition gives
pub addition : (r : MonthRow) → Genuine months r → suc r.lunation < round_months →
    (carried r (pos 1) ≡ Ok (row_of (suc r.lunation))) × (moon_of (row_of (suc r.lunation)) ≡ monthly_addition (moon_of r))
addition r g h =
    let m : ℕ = r.lunation in
    let one : m + 1 ≡ suc m = add-one m in
    (rw (tested months lawful r g, one, lt-ltb (suc m) round_months h), monthly m h ∙ ap (λ (x : MonthRow). monthly_addition (moon_of x)) (sym g.is_row))
