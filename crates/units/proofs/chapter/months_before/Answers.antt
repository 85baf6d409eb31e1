use native.Mathlib.Omega.{arith}
use mathlib.Core.Path.{◌≡◌, sym, ◌∙◌}
use Prim.Native.Nat.{◌-◌, ◌*◌, ◌≤◌}
use Rattle.reckoning.specs.Chapters.{chapter_before, chapter_rest}
use Rattle.units.specs.Xinghe.{chapter_months, chapter_years}
use Rattle.units.specs.Chapter.{leap_remainder}
use Rattle.units.proofs.Table.{chapter_stands, by_chapter_near}
use Rattle.units.proofs.chapter.months_before.Goals as goal

-- what the chapter leaves
room : (a : goal.After-chapter_months-count) → a.chapter_months-count.result * chapter_years ≤ a.args.y * chapter_months
unfolding chapter_before
room a = omega (arith, a.chapter_months-count.ensures)

rest : (a : goal.After-chapter_months-count) → a.args.y * chapter_months - a.chapter_months-count.result * chapter_years ≡ leap_remainder a.args.y
unfolding chapter_before chapter_rest
rest a = omega (arith, a.chapter_months-count.ensures)

pub overflow_mul-count : goal.overflow_mul-count
overflow_mul-count c = omega (arith, room c, c.requires)

pub overflow_sub-y : goal.overflow_sub-y
overflow_sub-y c = room c

pub returns-then-y-count-lt-SAME_DAY_FROM : goal.returns-then-y-count-lt-SAME_DAY_FROM
returns-then-y-count-lt-SAME_DAY_FROM c =
    c.chapter_months-count.ensures ∙ sym (chapter_stands c.args.y (omega (arith, rest c.before, c.if-y-count-lt-SAME_DAY_FROM.true)))

pub months_from-requires : goal.months_from-requires
months_from-requires c =
    rw (c.calendar.ensures, c.chapter_months-count.ensures) (c.requires, (by_chapter_near c.args.y).0, (by_chapter_near c.args.y).1)
