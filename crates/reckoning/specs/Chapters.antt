-- A chapter (章): so many years with a whole number of months.
-- Assumes nothing.
use Rattle.std.specs.Prelude.{◌≡◌, ℕ, ◌*◌, ◌/◌, ◌%◌, ◌<◌}
use Rattle.reckoning.specs.Means.{Means}

-- the months before the year with y years past as the chapter gives them (積月): its months times y, divided by its years; and what that
-- leaves, the leap remainder (閏餘)
unfoldable pub chapter_before : ℕ → ℕ → ℕ → ℕ
chapter_before months years y = y * months / years

unfoldable pub chapter_rest : ℕ → ℕ → ℕ → ℕ
chapter_rest months years y = y * months % years

-- what the laws ask of a chapter: its months and its years come out even
pub record ChapterBound (M : Means) (months years : ℕ) : Type 0 where
  pub pos : 0 < years
  pub even : months * (M.year_den * M.month_num) ≡ years * (M.year_num * M.month_den)
