-- The Zhengguang's head by its printed chapter, as a reader checks it.
-- Assumes nothing.
use Rattle.mean_calendar.specs.declared.MeanHead.{MeanHead}
use Rattle.std.specs.Prelude.{Result, Ok, Err}
use Rattle.refusal.specs.declared.Refusal.{Refusal}
use mathlib.Core.Path.{◌≡◌, refl}
use Prim.Native.Nat.{ℕ, suc, ◌+◌, ◌-◌, ◌*◌, ◌<◌}
use native.Mathlib.Omega.{arith}
use lib.Dec.{leb}
use Rattle.reckoning.specs.Search.{pick}
use Rattle.reckoning.specs.Chapters.{chapter_before}
use Rattle.reckoning.proofs.Chapters.{chapter_division, chapter_or_more}
use Rattle.lunisolar.proofs.Laws.{solstice_day}
use Rattle.mean_calendar.specs.Heads as heads
use Rattle.mean_calendar.specs.Heads.{head_of}
use Rattle.mean_calendar.specs.Months.{month_of}
use Rattle.mean_calendar.proofs.Found.{HeadFound, head_found}
use Rattle.zhengguang.specs.Zhengguang.{zhengguang, means, chapter_months, chapter_years, leap_remainder}
use Rattle.zhengguang.specs.Rows.{head_by, year_head}
use Rattle.zhengguang.specs.declared.ZhengguangHead.{ZhengguangHead}
use Rattle.zhengguang.proofs.Sound.{sound, chapter}

-- a head that is answered is any calendar's, with the leap remainder of the years past
record Found (n : ℕ) (head : ZhengguangHead) : Type 0 where
  pub mean : HeadFound zhengguang n head.mean
  pub rest : head.remainder ≡ leap_remainder (n - 1)

found : (n : ℕ) (head : ZhengguangHead) → Ok head ≡ year_head n → Found n head
unfolding head_by
found n head e = go (heads.year_head zhengguang n) refl e
  where
    go : (a : Result MeanHead Refusal) → a ≡ heads.year_head zhengguang n → Ok head ≡ head_by n a → Found n head
    go (Ok x) q e =
        let is : head ≡ record { mean = x; remainder = leap_remainder (n - 1) } = cc in
        rw is (record { mean = head_found zhengguang n x q; rest = refl })
    go (Err x) q e = let bad : ◌≡◌ {A = ℕ} 0 1 = cc in absurd (omega arith)

-- A HEAD BY THE PRINTED CHAPTER: the division's count and leap remainder, and the months before the year, one more than that count exactly where the
-- month after it begins on the solstice's day
pub head_chapter : (n : ℕ) (head : ZhengguangHead) → Ok head ≡ year_head n →
    (let t = chapter_before chapter_months chapter_years (n - 1) in
    (t * chapter_years + head.remainder ≡ (n - 1) * chapter_months) × (head.remainder < chapter_years)
    × (head.mean.before ≡ pick (leb (month_of zhengguang (suc t)).day head.mean.solstice) (suc t) t))
unfolding head_of month_of
head_chapter n head e =
    let y : ℕ = n - 1 in
    let f = found n head e in
    let d = chapter_division chapter_months chapter_years chapter.pos y in
    (rw f.rest d.0, rw f.rest d.1, rw (f.mean.is_head, solstice_day zhengguang sound y) (chapter_or_more means sound.moon sound.sun chapter_months chapter_years chapter y))
