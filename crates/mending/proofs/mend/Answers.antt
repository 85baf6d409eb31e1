use Rattle.std.specs.Prelude.{Ok}
use native.Mathlib.Omega.{arith}
use Prim.Native.Nat.{◌+◌, ◌-◌, ◌/◌}
use mathlib.Core.Path.{◌≡◌, refl, sym, ap, ◌∙◌}
use mathlib.Core.Bool.{true, false}
use lib.ListN.{length}
use Rattle.reckoning.specs.Search.{pick, any}
use Rattle.volumes.specs.Volume.{Run}
use Rattle.mending.specs.FirstYear.{sound_at, implied_first, known}
use Rattle.mending.specs.Mended.{mendable, mend_answer, volume_after, list_after}
use Rattle.mending.proofs.FirstYears.{Length, length_of_lem, known_by, known_first}
use Rattle.mending.proofs.Implied.{known_implied}
use Rattle.mending.proofs.mend.Goals as goal

pub returns-then-not-is_mendable : goal.returns-then-not-is_mendable
unfolding mend_answer volume_after list_after
returns-then-not-is_mendable c =
    let no : mendable (length c.args.volume.now) ≡ false = sym c.is_mendable.ensures ∙ c.if-not-is_mendable.true in
    (rw no refl, rw no refl, rw no refl)

pub implied_first-first-requires : goal.implied_first-first-requires
implied_first-first-requires c =
    let right : mendable (length c.args.volume.now) ≡ true = sym c.is_mendable.ensures ∙ c.if-not-is_mendable.false in
    let long : Length (length c.args.volume.now) = length_of_lem (length c.args.volume.now) (rw right tt) in
    omega (arith, long)

pub is_first-requires : goal.is_first-requires
is_first-requires c =
    let right : mendable (length c.args.volume.now) ≡ true = sym c.is_mendable.ensures ∙ c.if-not-is_mendable.false in
    let long : Length (length c.args.volume.now) = length_of_lem (length c.args.volume.now) (rw right tt) in
    let l = long in
    (omega (arith, l), omega (arith, l), omega (arith, l), c.implied_first-first.ensures.1)

pub returns-then-not-is_first : goal.returns-then-not-is_first
unfolding mend_answer volume_after list_after implied_first
returns-then-not-is_first c =
    let right : mendable (length c.args.volume.now) ≡ true = sym c.is_mendable.ensures ∙ c.if-not-is_mendable.false in
    let implied : (let v = c.args.volume.now in c.implied_first-first.result ≡ pick (any (sound_at v) (length v / 512)) (implied_first v) 0) = c.implied_first-first.ensures.0 in
    let tested : c.is_first.result ≡ known c.args.volume.now = c.is_first.ensures ∙ known_by c.args.volume.now c.implied_first-first.result implied in
    let no : known c.args.volume.now ≡ false = sym tested ∙ c.if-not-is_first.true in
    let yes = right in
    (rw (yes, no) refl, rw (yes, no) refl, rw (yes, no) refl)

pub mend_blocks-count-requires : goal.mend_blocks-count-requires
unfolding implied_first
mend_blocks-count-requires c =
    let right : mendable (length c.args.volume.now) ≡ true = sym c.is_mendable.ensures ∙ c.if-not-is_mendable.false in
    let long : Length (length c.args.volume.now) = length_of_lem (length c.args.volume.now) (rw right tt) in
    let implied : (let v = c.args.volume.now in c.implied_first-first.result ≡ pick (any (sound_at v) (length v / 512)) (implied_first v) 0) = c.implied_first-first.ensures.0 in
    let tested : c.is_first.result ≡ known c.args.volume.now = c.is_first.ensures ∙ known_by c.args.volume.now c.implied_first-first.result implied in
    let is_known : known c.args.volume.now ≡ true = sym tested ∙ c.if-not-is_first.false in
    let first_is : c.implied_first-first.result ≡ implied_first c.args.volume.now = known_first c.args.volume.now c.implied_first-first.result implied (rw is_known tt) in
    let run : (let v = c.args.volume.now in let f = c.implied_first-first.result in Run f (f + length v / 512 - 1)) = let v = c.args.volume.now in rw first_is (known_implied v (rw is_known tt)).run in
    let l = long in
    let r = run in
    (omega (arith, l), omega (arith, l, c.mend_blocks-arg-2-1.given), r.least, omega (arith, r.most))

pub returns : goal.returns
unfolding mend_answer volume_after list_after implied_first
returns c =
    let right : mendable (length c.args.volume.now) ≡ true = sym c.is_mendable.ensures ∙ c.if-not-is_mendable.false in
    let implied : (let v = c.args.volume.now in c.implied_first-first.result ≡ pick (any (sound_at v) (length v / 512)) (implied_first v) 0) = c.implied_first-first.ensures.0 in
    let tested : c.is_first.result ≡ known c.args.volume.now = c.is_first.ensures ∙ known_by c.args.volume.now c.implied_first-first.result implied in
    let is_known : known c.args.volume.now ≡ true = sym tested ∙ c.if-not-is_first.false in
    let first_is : c.implied_first-first.result ≡ implied_first c.args.volume.now = known_first c.args.volume.now c.implied_first-first.result implied (rw is_known tt) in
    let yes = right in
    let e = rw first_is at c.mend_blocks-count.ensures in
    let k = is_known in
    (rw (yes, k) (ap Ok e.0), rw (yes, k) e.1, rw (yes, k) (rw e.0 at e.2))
