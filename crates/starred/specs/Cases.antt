-- 01, "Cases at the edges": the cases marked *, as 02 moved them (§3: the day of the sixty is one more; §4: Xinghe 2's leap place is 7), and
-- what §4 says and what rows keep of their new moon by §5, as one table. What each says is `Holds`; proofs/Starred.antt shows that all do.
-- Assumes nothing.
use Rattle.std.specs.Prelude.{Ok, ◌≡◌, Bool, true, false, List, [], ◌∷◌, ℕ, ◌+◌, ◌-◌, ◌*◌, ltb, ℤ, pos, take, drop}
use Rattle.refusal.specs.Numbers.{answer_number}
use Rattle.std.specs.Result.{result_unwrap_or}
use Rattle.reckoning.specs.Means.{term_day}
use Rattle.lunisolar.specs.Sixty.{sexagenary_of}
use Rattle.units.specs.Xinghe.{N, D, P, means}
use Rattle.moon.specs.NewMoons.{length_of}
use Rattle.calendar.specs.Heads.{year_head}
use Rattle.walking.specs.Fields.{bit_of}
use Rattle.calendar.specs.Rows.{month_row, row_fields}
use Rattle.calendar.specs.Answers.{zero_row}
use Rattle.node.specs.Sides.{side_number}
use Rattle.node.specs.declared.Side.{Side}
use Rattle.ephemeris.specs.Jobs.{nodes_at, corrections_at}
use Rattle.ephemeris.specs.Answers.{zero_nodes, zero_corrections}

pub data Case : Type 0 where
  -- a year: months before, leap remainder, month count, leap place, solstice day and remainder
  head : (year before r months leap day remainder : ℕ) → Case
  -- a year and a place: the month of the round, month number, leap or not, day, day of the sixty, remainder, length
  row : (year place lunation number : ℕ) (leap : Bool) (day sexagenary remainder length : ℕ) → Case
  -- and what the row keeps of its new moon: degrees since the node and their remainder, side, anomaly day and rest
  kept : (year place degrees remainder : ℕ) (side : Side) (day rest : ℕ) → Case
  -- a small remainder: the length of its month
  length : (remainder length : ℕ) → Case
  -- a year and a place: the new moon's distance since the node in degrees and remainder, its side, whether an eclipse is marked, and its size
  new_node : (year place degrees remainder : ℕ) (side : Side) (marked : Bool) (size : ℕ) → Case
  -- and the full moon's, with the half
  full_node : (year place degrees remainder half : ℕ) (marked : Bool) (size : ℕ) → Case
  -- a year and a place: the new moon's anomaly day and rest, its correction, and the day and remainder to which it is corrected
  correction : (year place anomaly rest : ℕ) (correction : ℤ) (day remainder : ℕ) → Case
  -- a year, a place and a middle term of the year: the day on which that month begins and the term falls, the term earlier
  meeting : (year place term day : ℕ) → Case

abbrev pub Holds : Case → Type 0
Holds (head n b r m l d s) =
    year_head n ≡ Ok (record { before = b; remainder = r; months = m; leap = l; solstice = record { day = d; remainder = record { parts = s } } })
Holds (row n p m i l d x r w) =
    (answer_number (month_row n p) ≡ 0)
    × (take 8 (row_fields (result_unwrap_or (month_row n p) zero_row)) ≡ m ∷ n ∷ p ∷ i ∷ bit_of l ∷ d ∷ r ∷ w ∷ [])
    × (sexagenary_of d ≡ x)
Holds (kept n p d r s a x) =
    (answer_number (month_row n p) ≡ 0)
    × (drop 8 (row_fields (result_unwrap_or (month_row n p) zero_row)) ≡ d ∷ r ∷ side_number s ∷ a ∷ x ∷ [])
Holds (length r w) = length_of (record { parts = r }) ≡ w
Holds (new_node n p d r s m w) =
    (answer_number (nodes_at n p) ≡ 0)
    × ((result_unwrap_or (nodes_at n p) zero_nodes).new.distance ≡ record { degrees = d; remainder = record { parts = r }; half = 0 })
    × ((result_unwrap_or (nodes_at n p) zero_nodes).side ≡ s)
    × ((result_unwrap_or (nodes_at n p) zero_nodes).new.eclipse.marked ≡ m)
    × ((result_unwrap_or (nodes_at n p) zero_nodes).new.eclipse.size ≡ w)
Holds (full_node n p d r h m w) =
    (answer_number (nodes_at n p) ≡ 0)
    × ((result_unwrap_or (nodes_at n p) zero_nodes).full.distance ≡ record { degrees = d; remainder = record { parts = r }; half = h })
    × ((result_unwrap_or (nodes_at n p) zero_nodes).full.eclipse.marked ≡ m)
    × ((result_unwrap_or (nodes_at n p) zero_nodes).full.eclipse.size ≡ w)
Holds (correction n p a x c d r) =
    (answer_number (corrections_at n p) ≡ 0)
    × ((result_unwrap_or (corrections_at n p) zero_corrections).new ≡
    record { anomaly = record { day = a; rest = record { parts = x }; half = 0 }; correction = c; day = d; remainder = record { parts = r }; half = 0 })
Holds (meeting n p k d) =
    ((result_unwrap_or (month_row n p) zero_row).day ≡ d)
    × (term_day means (12 * (n - 1) + k) ≡ d)
    × (ltb ((12 * (n - 1) + k) * P * N) ((result_unwrap_or (month_row n p) zero_row).lunation * P * (12 * D)) ≡ true)

abbrev pub table : List Case
table =
    -- years 1 to 4
    head 1 0 0 12 0 0 0
    ∷ row 1 0 0 11 false 0 1 0 29
    ∷ head 2 12 207 12 0 365 4117
    ∷ head 3 24 414 13 9 730 8234
    ∷ head 4 37 59 12 0 1095 12351
    -- years 19 and 20: the leap remainder 354 has thirteen months and 561 has twelve (02 §4)
    ∷ head 19 222 354 13 12 6574 6666
    ∷ head 20 235 561 12 0 6939 10783
    -- the last year, and its last month, which one part less would make 29 days
    ∷ head 1011600 12511787 355 13 12 369480654 12743
    ∷ row 1011600 12 12511799 10 true 369480990 31 97883 30
    ∷ length 97882 29
    -- month 0 stands at the node, and its full moon exactly at P/2
    ∷ new_node 1 0 0 0 Side.AtNode true 15
    ∷ kept 1 0 0 0 Side.AtNode 1 0
    ∷ full_node 1 0 14 159588 1 true 1
    -- Xinghe 2: the new moon of place 8 and the Great Heat (大暑), middle term 7, fall on one day (02 §4), so that place 7 is leap
    ∷ meeting 293997 8 7 107380543
    ∷ head 293997 3636238 440 13 7 107380330 2132
    ∷ row 293997 0 3636238 11 false 107380307 48 1336 29
    -- its leap month is a leap fifth
    ∷ row 293997 7 3636245 5 true 107380513 14 150275 30
    ∷ row 293997 8 3636246 6 false 107380543 44 52392 29
    ∷ new_node 293997 0 136 125572 Side.Inside false 0
    ∷ correction 293997 0 14 188982 (pos 2124) 107380306 207742
    ∷ kept 293997 0 136 125572 Side.Inside 14 188982
    -- year 294,000: leap place 3, where rounding by the leap remainder gives 4
    ∷ head 294000 3636275 499 13 3 107381425 14483
    ∷ []

abbrev pub All : List Case → Type 0
All [] = Unit {0}
All (c ∷ cs) = Holds c × All cs
