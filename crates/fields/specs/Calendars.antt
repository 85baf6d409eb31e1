-- The values of the Zhengguang's and the Linde's answers as numbers, in the order of include/xinghe.h.
-- Assumes nothing.
use Rattle.std.specs.Prelude.{List, [], ◌∷◌, ℕ}
use Rattle.mean_calendar.specs.declared.MeanHead.{MeanHead}
use Rattle.mean_calendar.specs.declared.MeanPoint.{MeanPoint}
use Rattle.zhengguang.specs.declared.ZhengguangHead.{ZhengguangHead}
use Rattle.zhengguang.specs.declared.MonthNodes.{MonthNodes}

abbrev pub mean_head_fields : MeanHead → List ℕ
mean_head_fields h = h.before ∷ h.months ∷ h.leap ∷ h.solstice ∷ h.remainder.parts ∷ []

abbrev pub zhengguang_head_fields : ZhengguangHead → List ℕ
zhengguang_head_fields h = h.mean.before ∷ h.remainder ∷ h.mean.months ∷ h.mean.leap ∷ h.mean.solstice ∷ h.mean.remainder.parts ∷ []

abbrev pub mean_point_fields : MeanPoint → List ℕ
mean_point_fields p = p.day ∷ p.remainder.parts ∷ p.rest ∷ []

abbrev pub month_nodes_fields : MonthNodes → List ℕ
month_nodes_fields x =
    x.new.degrees ∷ x.new.remainder.parts ∷ x.new.half ∷ x.full.degrees ∷ x.full.remainder.parts ∷ x.full.half ∷ []
