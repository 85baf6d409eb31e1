use mathlib.Core.Logic.{◌≢◌}
use Rattle.node.specs.Passages.{passage_of}
use Rattle.units.specs.Xinghe.{era_months}
use mathlib.Core.Path.{◌≡◌, refl, sym, ap, ◌∙◌}
use borrow.Author.Tests.{eq-eqb, ne_eqb}
use Prim.Native.Nat.{ℕ, ◌+◌, ◌/◌}
use mathlib.Core.Bool.{Bool, false}
use lib.Dec.{eqb}
use mir.Val.{bool_byte}
use Rattle.node.specs.Eclipses.{since_node}
use Rattle.node.specs.Sides.{side_of}
use Rattle.node.specs.declared.passages.Passage.{Passage}
use Rattle.node.proofs.Heads.{turns, side_since_origin}
use Rattle.node.proofs.passages.Passage.side.Goals as goal

-- the distance is the month's
since : (p : Passage) (m : ℕ) → p ≡ passage_of m → p.since ≡ since_node m
since p m e = ap (λ (x : Passage). x.since) e

off_node : (p : Passage) (m : ℕ) → p ≡ passage_of m → p.since ≢ 0 → eqb (since_node m) 0 ≡ false
off_node p m e h = ne_eqb _ _ (λ q. h (ap (λ (x : Passage). x.since) e ∙ q))

-- the turns that are counted are the month's
counted : (p : Passage) (m : ℕ) (second : Bool) → p ≡ passage_of m → second ≡ eqb (m / era_months) 1 → p.nodes + bool_byte second ≡ turns m
counted p m second e f = rw (f, e) refl

pub returns-then-self-eq0 : goal.returns-then-self-eq0
unfolding side_of
returns-then-self-eq0 c = rw (eq-eqb _ _ (sym (since c.args.self c.args.lunation c.requires.1) ∙ c.if-self-eq0.true)) refl

pub returns-then-turns-eq0 : goal.returns-then-turns-eq0
unfolding side_of
returns-then-turns-eq0 c =
    rw (off_node c.args.self c.args.lunation c.requires.1 c.if-self-eq0.false, side_since_origin c.args.lunation c.requires.0, ← counted c.args.self c.args.lunation _ c.requires.1 c.in_second_era.ensures, eq-eqb _ _ c.if-turns-eq0.true) refl

pub returns-else-turns-eq0 : goal.returns-else-turns-eq0
unfolding side_of
returns-else-turns-eq0 c =
    rw (off_node c.args.self c.args.lunation c.requires.1 c.if-self-eq0.false, side_since_origin c.args.lunation c.requires.0, ← counted c.args.self c.args.lunation _ c.requires.1 c.in_second_era.ensures, ne_eqb _ _ c.if-turns-eq0.false) refl
