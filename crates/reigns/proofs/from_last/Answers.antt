use Rattle.reigns.specs.Marked.{from_last}
use Rattle.reigns.proofs.from_last.Goals as goal

pub returns-then-right_check : goal.returns-then-right_check
unfolding from_last
returns-then-right_check c = rw (← c.right_check.ensures, c.if-right_check.true, c.totals_in-totals.ensures)

pub returns-else-right_check : goal.returns-else-right_check
unfolding from_last
returns-else-right_check c = rw (← c.right_check.ensures, c.if-right_check.false)
