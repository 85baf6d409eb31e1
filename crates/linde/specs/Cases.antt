-- Cases of the Linde: the first year, the first with a leap month, the year Linde 1 and the last, as the definitions give them.
-- Assumes nothing.
use Rattle.std.specs.Prelude.{true, false, List, [], ◌∷◌}
use Rattle.mean_calendar.specs.Cases.{Case, head, month, none}

abbrev pub table : List Case
table =
    -- year 0 is answered: solstice and new moon on day 0
    head 0 0 12 0 0 0
    ∷ month 0 0 0 11 false 0 1 0 29
    ∷ head 1 12 12 0 365 328
    ∷ head 2 24 13 9 730 656
    ∷ month 2 9 33 7 true 974 15 683 30
    -- Linde 1
    ∷ head 269880 3337970 12 0 98572260 240
    ∷ month 269880 0 3337970 11 false 98572246 47 1230 30
    -- the last year, and its last month, which ends with the last day
    ∷ head 300000 3710505 12 0 109573432 1120
    ∷ month 300000 11 3710516 10 false 109573752 13 956 30
    ∷ none 300001
    ∷ []
