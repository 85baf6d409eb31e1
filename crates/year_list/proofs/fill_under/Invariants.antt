-- The first i of the lent places that are filled have the year's rows, and the others are as they were lent.
use mathlib.Core.Path.{◌≡◌}
use Rattle.year_list.proofs.Fronts.{front}
use Rattle.year_list.proofs.fill_under.Given as goal

abbrev pub invariant-loop-i : goal.invariant-loop-i
invariant-loop-i l = l.row-items ≡ front l.year l.i l.initial.row-items
