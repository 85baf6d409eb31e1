-- The chapter (章) of the Xinghe, as it is printed (02 §2).
-- Assumes nothing.
use Rattle.std.specs.Prelude.{List, ℕ, ◌*◌, get_or}
use Rattle.reckoning.specs.Search.{list_from}
use Rattle.reckoning.specs.Chapters.{chapter_before, chapter_rest}
use Rattle.units.specs.Xinghe.{chapter_months, chapter_years}

-- the months before the year with y years past, as the chapter gives them (積月): floor(6951·y/562)
abbrev pub by_chapter : ℕ → ℕ
by_chapter y = chapter_before chapter_months chapter_years y

-- the leap remainder (閏餘) of that year: 6951·y mod 562. It does not decide the month count (02 §4)
abbrev pub leap_remainder : ℕ → ℕ
leap_remainder y = chapter_rest chapter_months chapter_years y

-- the months before each of the 562 years of a chapter, as the chapter gives them
unfoldable pub chapter_table : List ℕ
chapter_table = list_from by_chapter 0 chapter_years

-- four of its entries, from year 4·t of the chapter on; past its end 0
unfoldable pub four_years : ℕ → List ℕ
four_years t = list_from (λ j. get_or chapter_table j 0) (4 * t) 4
