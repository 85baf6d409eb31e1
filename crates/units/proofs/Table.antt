-- The printed chapter (02 §2): its rule at each entry, the division that it and whole chapters replace, and what they give of the months
-- before a year.
-- Assumes nothing.
use mathlib.Core.Path.{◌≡◌, refl, sym, ap, ◌∙◌}
use mathlib.Core.List.{[], ◌∷◌}
use Prim.Native.Nat.{ℕ, suc, ◌+◌, ◌*◌, ◌/◌, ◌%◌, ◌≤◌, ◌<◌}
use native.Mathlib.Omega.{arith}
use native.Mathlib.Nat.{zero-add, mod-lt}
use lib.Dec.{leb}
use borrow.Author.Tests.{lt-leb}
use lib.ListN.{get_or}
use Rattle.reckoning.specs.Search.{pick, list_from}
use Rattle.reckoning.specs.Means.{new_moon, term_day}
use Rattle.reckoning.specs.Chapters.{chapter_before, chapter_rest}
use Rattle.reckoning.proofs.Searches.{list_at, pick_cases}
use Rattle.reckoning.proofs.Rates.{rate, rate_rounds}
use Rattle.reckoning.proofs.Chapters.{chapter_or_more}
use Rattle.units.specs.Xinghe.{chapter_months, chapter_years, means, rule}
use Rattle.units.specs.Chapter.{chapter_table, four_years, by_chapter, leap_remainder}
use Rattle.units.proofs.Sound.{sound, chapter}

-- EACH ENTRY IS floor(6951·j/562)
pub entry_rule : (j : ℕ) → j < chapter_years → get_or chapter_table j 0 ≡ j * chapter_months / chapter_years
unfolding chapter_table chapter_before
entry_rule j h = list_at by_chapter 0 chapter_years 0 j h ∙ ap by_chapter (zero-add j)

-- THE DIVISION IS WHOLE CHAPTERS AND THE ENTRY OF THE YEAR IN ITS CHAPTER
pub by_chapters : (y : ℕ) → by_chapter y ≡ y / chapter_years * chapter_months + get_or chapter_table (y % chapter_years) 0
unfolding rate chapter_before
by_chapters y =
    rate_rounds chapter_months chapter_years chapter.pos y
    ∙ ap (λ (e : ℕ). y / chapter_years * chapter_months + e) (sym (entry_rule (y % chapter_years) (mod-lt y chapter.pos)))

-- four entries in a row, and the last two with the zeros after them
pub four_listed : (t : ℕ) → four_years t ≡ get_or chapter_table (4 * t) 0 ∷ get_or chapter_table (4 * t + 1) 0 ∷ get_or chapter_table (4 * t + 2) 0 ∷ get_or chapter_table (4 * t + 3) 0 ∷ []
unfolding four_years list_from
four_listed t =
    let one : suc (4 * t) ≡ 4 * t + 1 = omega arith in
    let two : suc (4 * t + 1) ≡ 4 * t + 2 = omega arith in
    let three : suc (4 * t + 2) ≡ 4 * t + 3 = omega arith in
    rw (one, two, three) refl

pub last_two : four_years 140 ≡ get_or chapter_table 560 0 ∷ get_or chapter_table 561 0 ∷ 0 ∷ 0 ∷ []
unfolding four_years list_from chapter_table
last_two = refl

-- each entry stands among its four
pub among_four : (j : ℕ) → get_or (four_years (j / 4)) (j % 4) 0 ≡ get_or chapter_table j 0
unfolding four_years
among_four j =
    let e : 4 * (j / 4) + j % 4 ≡ j = omega arith in
    list_at (λ k. get_or chapter_table k 0) 0 4 (4 * (j / 4)) (j % 4) (omega arith) ∙ ap (λ k. get_or chapter_table k 0) e

-- THE MONTHS BEFORE A YEAR ARE THE CHAPTER'S, OR ONE MORE: exactly where the month after the chapter's begins on the solstice's day
pub by_chapter_or_more : (y : ℕ) → rule.before y ≡ pick (leb (new_moon means (suc (by_chapter y))) (term_day means (12 * y))) (suc (by_chapter y)) (by_chapter y)
by_chapter_or_more y = chapter_or_more means sound.moon sound.sun chapter_months chapter_years chapter y

-- not so with a leap remainder below 543, where that month begins a day or more after the solstice
pub chapter_stands : (y : ℕ) → leap_remainder y < 543 → rule.before y ≡ by_chapter y
unfolding chapter_before chapter_rest new_moon term_day rate
chapter_stands y h = rw (by_chapter_or_more y, lt-leb (new_moon means (suc (by_chapter y))) (term_day means (12 * y)) (omega (arith, h))) refl

pub by_chapter_near : (y : ℕ) → (by_chapter y ≤ rule.before y) × (rule.before y ≤ by_chapter y + 1)
by_chapter_near y =
    rw (by_chapter_or_more y)
    (pick_cases (λ m. (by_chapter y ≤ m) × (m ≤ by_chapter y + 1)) (leb (new_moon means (suc (by_chapter y))) (term_day means (12 * y))) (suc (by_chapter y)) (by_chapter y)
    (λ t. omega arith)
    (λ t. omega arith))
