use native.Mathlib.Omega.{arith}
use mathlib.Core.Path.{sym, ◌∙◌}
use Rattle.mean_calendar.proofs.Found.{HeadFound, head_found}
use Rattle.zhengguang.specs.Zhengguang.{zhengguang}
use Rattle.zhengguang.proofs.heads.head_by.Goals as goal

-- whose the head is
whose : (a : goal.In_ok-mean) → HeadFound zhengguang a.args.year a.in_ok-mean.mean
whose a = head_found zhengguang a.args.year a.in_ok-mean.mean (sym a.in_ok-mean.was ∙ a.requires)

pub overflow_sub-year : goal.overflow_sub-year
overflow_sub-year c = (whose c).written

pub leap_remainder-remainder-requires : goal.leap_remainder-remainder-requires
leap_remainder-remainder-requires c = omega (arith, (whose c).upto)
