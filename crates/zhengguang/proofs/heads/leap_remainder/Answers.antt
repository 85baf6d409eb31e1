use mathlib.Core.Path.{refl}
use Rattle.reckoning.specs.Chapters.{chapter_rest}
use Rattle.zhengguang.proofs.heads.leap_remainder.Goals as goal

pub returns : goal.returns
unfolding chapter_rest
returns c = refl
