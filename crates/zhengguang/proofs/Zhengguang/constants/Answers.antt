use mathlib.Core.Path.{refl}
use Rattle.zhengguang.proofs.Sound.{sound}
use Rattle.zhengguang.proofs.Zhengguang.constants.Goals as goal

pub returns : goal.returns
returns c = (refl, sound)
