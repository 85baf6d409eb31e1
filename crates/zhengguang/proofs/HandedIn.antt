-- Walks from rows handed in as numbers: a row handed in as its own numbers is walked as the row is.
-- Assumes nothing.
use mathlib.Core.Path.{◌≡◌, refl}
use mathlib.Core.Bool.{Bool, true, false}
use mathlib.Core.List.{List}
use lib.IntN.{ℤ}
use Rattle.walking.specs.Walk.{genuine}
use Rattle.walking.proofs.Walks.{genuine_row}
use Rattle.zhengguang.specs.Rows.{row_fields}
use Rattle.zhengguang.specs.Carries.{rows, walk_answer, walk_answer_fields}
use Rattle.zhengguang.specs.declared.ZhengguangRow.{ZhengguangRow}
use Rattle.zhengguang.proofs.Lawful.{lawful}

-- A ROW HANDED IN AS ITS NUMBERS IS WALKED AS THE ROW IS
pub walk_handed_in : (r : ZhengguangRow) (cs : List ℤ) → walk_answer_fields (row_fields r) cs ≡ walk_answer r cs
walk_handed_in r cs = go (genuine rows r) refl
  where
    go : (b : Bool) → genuine rows r ≡ b → walk_answer_fields (row_fields r) cs ≡ walk_answer r cs
    go true g = rw (← (genuine_row rows lawful r g).1) refl
    go false g = rw g refl
