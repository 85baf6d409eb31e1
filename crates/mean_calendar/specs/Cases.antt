-- Cases of any calendar, to be shown of its definitions as one table.
-- Assumes nothing.
use Rattle.std.specs.Prelude.{Ok, Err, ◌≡◌, Bool, List, [], ◌∷◌, ℕ}
use Rattle.refusal.specs.declared.Refusal.{Refusal}
use Rattle.lunisolar.specs.Sixty.{sexagenary_of}
use Rattle.lunisolar.specs.declared.Constants.{Constants}
use Rattle.mean_calendar.specs.Heads.{year_head}
use Rattle.mean_calendar.specs.Months.{month_row}

pub data Case : Type 0 where
  -- a year: months before, month count, leap place, solstice day and remainder
  head : (year before months leap day remainder : ℕ) → Case
  -- a year and a place: the month's number from the origin, month number, leap or not, first day, its day of the sixty, small remainder, length
  month : (year place lunation number : ℕ) (leap : Bool) (day sexagenary remainder length : ℕ) → Case
  -- a year that the calendar doesn't have
  none : (year : ℕ) → Case

abbrev pub Holds : Constants → Case → Type 0
Holds k (head n b m l d r) =
    year_head k n ≡ Ok (record { before = b; months = m; leap = l; solstice = d; remainder = record { parts = r } })
Holds k (month n p m i l d x r w) =
    (month_row k n p ≡ Ok (record { lunation = m; year = n; place = p; number = i; leap = l; day = d; remainder = record { parts = r }; length = w }))
    × (sexagenary_of d ≡ x)
Holds k (none n) = year_head k n ≡ Err Refusal.Year

abbrev pub All : Constants → List Case → Type 0
All k [] = Unit {0}
All k (c ∷ cs) = Holds k c × All k cs
