-- Cases of the Zhengguang: the first years, the year Xiaochang 3 and the last, as the definitions give them; and 001's table of the eras.
-- Assumes nothing.
use Rattle.refusal.specs.Numbers.{answer_number}
use Rattle.std.specs.Result.{result_unwrap_or}
use Rattle.std.specs.Prelude.{◌≡◌, true, false, List, [], ◌∷◌, ℕ, ◌+◌, ◌*◌}
use Rattle.mean_calendar.specs.Cases.{Case, head, month, none}
use Rattle.zhengguang.specs.Zhengguang.{era_years}
use Rattle.zhengguang.specs.Rows.{month_row}
use Rattle.zhengguang.specs.Answers.{zero_row}

abbrev pub table : List Case
table =
    head 1 0 12 0 0 0
    ∷ month 1 0 0 11 false 0 1 0 29
    ∷ head 2 12 12 0 365 1477
    ∷ head 3 24 13 9 730 2954
    -- Xiaochang 3 (孝昌三年)
    ∷ head 167756 2074846 13 1 61271461 4975
    ∷ month 167756 1 2074847 11 true 61271462 3 8495 29
    -- the last year, and its last month, which ends with the last day
    ∷ head 363600 4497107 13 12 132802254 4583
    ∷ month 363600 12 4497119 10 true 132802590 31 35183 30
    ∷ none 0
    ∷ none 363601
    ∷ []

-- an era's head (紀首): its distance since the node (交會差) in degrees and remainder
pub record EraHead : Type 0 where
  pub degrees : ℕ
  pub remainder : ℕ

-- as 001 prints them: jiazi, jiaxu, jiashen, jiawu, jiachen, jiayin
abbrev pub printed : List EraHead
printed =
    record { degrees = 0; remainder = 0 }
    ∷ record { degrees = 49; remainder = 36744 }
    ∷ record { degrees = 98; remainder = 73488 }
    ∷ record { degrees = 148; remainder = 35280 }
    ∷ record { degrees = 24; remainder = 48816 }
    ∷ record { degrees = 74; remainder = 10608 }
    ∷ []

-- the row of the first month of era e, from 0, is answered, with that distance
abbrev pub EraIs : ℕ → EraHead → Type 0
EraIs e h =
    (answer_number (month_row (e * era_years + 1) 0) ≡ 0)
    × ((result_unwrap_or (month_row (e * era_years + 1) 0) zero_row).degrees ≡ h.degrees)
    × ((result_unwrap_or (month_row (e * era_years + 1) 0) zero_row).residue.parts ≡ h.remainder)

abbrev pub ErasFrom : ℕ → List EraHead → Type 0
ErasFrom e [] = Unit {0}
ErasFrom e (h ∷ hs) = EraIs e h × ErasFrom (e + 1) hs
