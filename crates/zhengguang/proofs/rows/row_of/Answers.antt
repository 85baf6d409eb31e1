use native.Mathlib.Omega.{arith}
use mathlib.Core.Path.{◌≡◌, ◌∙◌, ap}
use Rattle.mean_calendar.specs.Months.{month_of}
use Rattle.mean_calendar.specs.declared.MeanMonth.{MeanMonth}
use Rattle.zhengguang.specs.Zhengguang.{zhengguang}
use Rattle.zhengguang.specs.Rows.{row_by, row_of}
use Rattle.zhengguang.proofs.rows.row_of.Goals as goal

is_month : (a : goal.After-month_of) → a.month_of.result ≡ month_of zhengguang a.args.lunation
is_month a = rw a.calendar.ensures at a.month_of.ensures

pub with_node-requires : goal.with_node-requires
unfolding month_of
with_node-requires c = omega (arith, ap (λ (x : MeanMonth). x.lunation) (is_month c), c.requires)

pub returns : goal.returns
unfolding row_of
returns c = c.with_node.ensures ∙ ap row_by (is_month c.before)
