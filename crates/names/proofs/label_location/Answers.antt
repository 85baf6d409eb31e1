use mathlib.Core.Path.{◌≡◌, refl}
use mathlib.Core.Bool.{true}
use native.Mathlib.Omega.{arith}
use Prim.Native.Nat.{suc}
use borrow.Author.Tests.{eq-eqb, ne_eqb}
use Rattle.reckoning.proofs.Searches.{inside, below, beyond}
use Rattle.lunisolar.specs.Sixty.{sixty}
use Rattle.names.specs.Names.{list_bytes, in_sixty, location_for}
use Rattle.names.proofs.label_location.Goals as goal

pub returns-then-day-lt1 : goal.returns-then-day-lt1
unfolding location_for
returns-then-day-lt1 c = rw (below 1 c.args.day (suc sixty) (omega (arith, c.if-day-lt1.true))) refl

pub returns-then-day-gt-SIXTY : goal.returns-then-day-gt-SIXTY
unfolding location_for
returns-then-day-gt-SIXTY c = rw (beyond 1 c.args.day (suc sixty) (omega (arith, c.if-day-gt-SIXTY.true))) refl

pub returns-then-theirs-eq-LIST : goal.returns-then-theirs-eq-LIST
unfolding location_for
returns-then-theirs-eq-LIST c =
    let in_sixty_lem : in_sixty c.args.day ≡ true = inside 1 c.args.day (suc sixty) (omega (arith, c.if-day-lt1.false)) (omega (arith, c.if-day-gt-SIXTY.false)) in
    let a = c.args in
    rw (in_sixty_lem, eq-eqb a.theirs list_bytes (omega (arith, c.if-theirs-eq-LIST.true))) refl

pub returns-then-house-eq-LIST : goal.returns-then-house-eq-LIST
unfolding location_for
returns-then-house-eq-LIST c =
    let in_sixty_lem : in_sixty c.args.day ≡ true = inside 1 c.args.day (suc sixty) (omega (arith, c.if-day-lt1.false)) (omega (arith, c.if-day-gt-SIXTY.false)) in
    let a = c.args in
    rw (in_sixty_lem, ne_eqb a.theirs list_bytes c.if-theirs-eq-LIST.false, eq-eqb a.house list_bytes (omega (arith, c.if-house-eq-LIST.true))) refl

pub returns : goal.returns
unfolding location_for
returns c =
    let in_sixty_lem : in_sixty c.args.day ≡ true = inside 1 c.args.day (suc sixty) (omega (arith, c.if-day-lt1.false)) (omega (arith, c.if-day-gt-SIXTY.false)) in
    let a = c.args in
    rw (in_sixty_lem, ne_eqb a.theirs list_bytes c.if-theirs-eq-LIST.false, ne_eqb a.house list_bytes c.if-house-eq-LIST.false) refl
