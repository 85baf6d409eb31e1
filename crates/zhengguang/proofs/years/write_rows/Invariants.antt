use mathlib.Core.Path.{◌≡◌}
use mathlib.Core.List.{List}
use Prim.Native.Nat.{ℕ}
use Rattle.reckoning.proofs.Lists.{filled_to}
use Rattle.zhengguang.specs.Rows.{row_fields}
use Rattle.zhengguang.specs.Years.{row_at}
use Rattle.zhengguang.proofs.years.write_rows.Given as goal

-- the numbers at a place
abbrev pub at : ℕ → ℕ → List ℕ
at n p = row_fields (row_at n p)

abbrev pub invariant-loop-i : goal.invariant-loop-i
invariant-loop-i l = l.rows ≡ filled_to (at l.year) l.initial.rows l.i
