use mathlib.Core.Path.{◌≡◌, ap, ◌∙◌}
use Rattle.mean_calendar.specs.Months.{month_row}
use Rattle.mean_year.specs.Years.{month_at}
use Rattle.zhengguang.specs.Zhengguang.{zhengguang}
use Rattle.zhengguang.specs.Rows.{row_by}
use Rattle.zhengguang.proofs.Whose.{place_low, row_of_values}
use Rattle.zhengguang.proofs.years.row_at.Goals as goal

-- any calendar's month at the place
month : (a : goal.After-month_at) → (let x = a.args in a.month_at.result ≡ month_at zhengguang x.year x.place)
month a = rw a.calendar.ensures at a.month_at.ensures

pub with_node-requires : goal.with_node-requires
with_node-requires c = let x = c.args in rw (month c) (place_low x.year x.place)

pub returns : goal.returns
returns c =
    let x = c.args in
    c.with_node.ensures ∙ ap row_by (month c.before) ∙ row_of_values (month_row zhengguang x.year x.place)
