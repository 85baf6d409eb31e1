-- A stage made of a row of the table: what its ten numbers mean.
-- Assumes nothing.
use Rattle.std.specs.Prelude.{List, [], ℕ, ◌<◌, eqb, ℤ, pos, length, get_or}
use Rattle.reckoning.specs.Search.{pick}
use Rattle.planets.specs.declared.Apparition.{Apparition}
use Rattle.planets.specs.declared.StageKind.{StageKind}
use Rattle.planets.specs.declared.Stage.{Stage}
use Rattle.planets.specs.Stages.{retreat, stage}

-- the kind with a number; any other number is that of no stage
abbrev pub kind_of : ℕ → StageKind
kind_of n =
    pick (eqb n 1) StageKind.Hidden
    (pick (eqb n 2) StageKind.Direct
    (pick (eqb n 3) StageKind.Station
    (pick (eqb n 4) StageKind.Retrograde StageKind.Unused)))

-- morning or evening by its number; any other is neither's
abbrev pub apparition_of : ℕ → Apparition
apparition_of n = pick (eqb n 1) Apparition.Morning (pick (eqb n 2) Apparition.Evening Apparition.Neither)

-- degrees by their size, and whether they are gone back
abbrev pub signed_degrees : ℕ → ℕ → ℤ
signed_degrees back size = pick (eqb back 1) (retreat size) (pos size)

unfoldable pub stage_of : List ℕ → Stage
stage_of row =
    stage (get_or row 0 0) (get_or row 1 0) (signed_degrees (get_or row 2 0) (get_or row 3 0)) (get_or row 4 0)
    (get_or row 5 0) (get_or row 6 0) (get_or row 7 0) (kind_of (get_or row 8 0)) (apparition_of (get_or row 9 0))

-- what the code asks of rows: no degrees that leave 64 bits
abbrev pub Small : List (List ℕ) → Type 0
Small rows = (i : ℕ) → i < length rows → get_or (get_or rows i []) 3 0 < 4294967296
