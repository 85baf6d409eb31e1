use Rattle.std.specs.Prelude.{Ok}
use native.Mathlib.Omega.{arith}
use mathlib.Core.Path.{◌≡◌, ◌∙◌, sym, ap}
use lib.ListN.{take}
use Rattle.calendar.specs.Heads.{year_head}
use Rattle.calendar.proofs.Round.{head_months}
use Rattle.year_list.specs.Filled.{rows_from}
use Rattle.year_list.specs.declared.YearRows.{YearRows}
use Rattle.year_list.proofs.Years.{front_rows}
use Rattle.year_text.specs.Text.{text_for}
use Rattle.writing.proofs.Writings.{and_then, from_front}
use Rattle.year_text.proofs.Lengths.{head_length}
use Rattle.year_text.proofs.writer.render.Goals as goal

-- the head that the match binds is the year's, and so are the rows
is_head : (a : goal.After-put_rows-arg-in-Ok-1) → Ok a.in-Ok.head ≡ year_head a.args.year
is_head a = sym a.in-Ok.is ∙ ap (λ (x : YearRows). x.head) a.year_by_value-listed.ensures

are_rows : (a : goal.After-put_rows-arg-in-Ok-1) →
    (let h = a.in-Ok.head in take h.months a.year_by_value-listed.result.rows ≡ rows_from a.args.year 0 h.months)
are_rows a =
    rw a.year_by_value-listed.ensures (front_rows a.args.year a.in-Ok.head (is_head a))

pub put_rows-requires : goal.put_rows-requires
put_rows-requires c =
    let y = c.args.year in
    let w = c.put_head-end.ensures in
    let m = head_months y c.in-Ok.head (is_head c) in
    (omega (arith, m), omega (arith, w.long, w.next, head_length y c.in-Ok.head, m))

pub returns-in-Ok : goal.returns-in-Ok
unfolding text_for
returns-in-Ok c =
    rw (← is_head c.before, ← are_rows c.before) (from_front (and_then c.put_head-end.ensures c.put_rows.ensures))

pub returns-in-Err : goal.returns-in-Err
unfolding text_for
returns-in-Err c =
    let refused = sym c.in-Err.is ∙ ap (λ (x : YearRows). x.head) c.year_by_value-listed.ensures in
    rw (← refused) (from_front c.put_refusal.ensures)
