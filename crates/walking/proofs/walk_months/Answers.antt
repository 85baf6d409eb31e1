-- What is left of the walk, from where the loop stands, is the whole walk.
use Rattle.std.proofs.Common.{get_or, pos, SFits, sym, ◌∙◌, to_z-of_z, w64, rules}
use Rattle.walking.proofs.Program.{on_month, on_outside, at_end}
use Rattle.walking.proofs.walk_months.Goals as goal
use Rattle.walking.proofs.walk_months.Goals.{in-Some, in_default}

pub loop-count-preserved : goal.loop-count-preserved
loop-count-preserved c =
    let fits : SFits w64 (get_or c.args.counts.now c.loop-count.count-index (pos 0)) = search rules in
    let reached = simp to_z-of_z at c.reach.ensures in
    elim c.match-reach.branch [
      | in-Some w ↦ rw (w.month-is, w.answered-is)
          (on_month c.args.size c.args.from c.args.counts.now c.loop-count.month c.loop-count.answered c.loop-count.count-index c.loop-count.invariant
          w.in-Some.k c.loop-count-test.true (sym w.in-Some.is ∙ reached))
      | in_default w ↦ rw (w.month-is, w.answered-is)
          (on_outside c.args.size c.args.from c.args.counts.now c.loop-count.month c.loop-count.answered c.loop-count.count-index c.loop-count.invariant
          c.loop-count-test.true (sym w.in_default.is ∙ reached))
    ]

pub returns : goal.returns
returns c =
    let e = at_end c.args.size c.args.from c.args.counts.now c.loop-count.month c.loop-count.answered c.loop-count.count-index c.loop-count.invariant c.loop-count-test.false in
    λ j. record { month = e.0 j; answered = e.1 j }
