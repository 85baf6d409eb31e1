-- A year's block of 512 bytes (02 §6), field after field.
-- Assumes nothing.
use Rattle.std.specs.Result.{result_unwrap_or}
use Rattle.std.specs.Prelude.{List, [], ◌∷◌, ◌++◌, ℕ, zero, suc, ◌-◌, ◌*◌, ◌%◌}
use Rattle.calendar.specs.Heads.{year_head}
use Rattle.walking.specs.Fields.{bit_of}
use Rattle.calendar.specs.Answers.{zero_head}
use Rattle.calendar.specs.declared.YearHead.{YearHead}
use Rattle.calendar.specs.declared.MonthRow.{MonthRow}
use Rattle.year_list.specs.Filled.{row_at}
use Rattle.totals.specs.Totals.{months_of}
use Rattle.totals.specs.declared.Totals.{Totals}
use Rattle.blocks.specs.Bytes.{le32, le16, zeros, value32}
use Rattle.blocks.specs.Check.{check_of}

-- the year in 4 bytes, its month count, its leap place, two zeros
unfoldable pub head_bytes : ℕ → YearHead → List ℕ
head_bytes n head = le32 n ++ (head.months % 256 ∷ head.leap % 256 ∷ 0 ∷ 0 ∷ [])

-- a month's record of 16: month of the round, day, remainder in 4 each, then length, month number, leap 1 or 0, zero
unfoldable pub record_bytes : MonthRow → List ℕ
record_bytes row =
    le32 row.lunation ++ le32 row.day ++ le32 row.remainder.parts
    ++ (row.length % 256 ∷ row.number % 256 ∷ bit_of row.leap ∷ 0 ∷ [])

-- the records of the first k months of year n
unfoldable pub records : ℕ → ℕ → List ℕ
records n zero = []
records n (suc k) = records n k ++ record_bytes (row_at n k)

-- three totals of 4: leap months, marked new moons, marked full moons
unfoldable pub totals_bytes : Totals → List ℕ
totals_bytes t = le32 t.leaps ++ le32 t.news ++ le32 t.fulls

-- the head, thirteen places for records, of which the unused ones are zero, and the totals
unfoldable pub front_of : ℕ → Totals → List ℕ
front_of n t = head_bytes n (result_unwrap_or (year_head n) zero_head) ++ records n (months_of n) ++ zeros (16 * (13 - months_of n)) ++ totals_bytes t

-- zeros to byte 509
unfoldable pub body_of : ℕ → Totals → List ℕ
body_of n t = front_of n t ++ zeros 282

-- and the check in two bytes
unfoldable pub block_of : ℕ → Totals → List ℕ
block_of n t = body_of n t ++ le16 (check_of (body_of n t))

-- the three totals that any 512 bytes hold (02 §7), where `totals_bytes` puts them
unfoldable pub totals_in : List ℕ → Totals
totals_in block = record { leaps = value32 block 216; news = value32 block 220; fulls = value32 block 224 }
