use mathlib.Core.Path.{◌≡◌, ◌∙◌, sym, ap}
use Prim.Native.Nat.{ℕ}
use lib.ListN.{length}
use Rattle.walking.specs.Fields.{named_month, same_fields}
use Rattle.walking.proofs.Program.{near}
use Rattle.units.specs.Xinghe.{round_months}
use Rattle.calendar.specs.Rows.{field_count, row_fields, row_of}
use Rattle.calendar.proofs.carries.is_genuine.Goals as goal

pub returns : goal.returns
returns c =
    let x = c.args in
    let m = named_month x.fields.now in
    let l : length x.fields.now ≡ field_count = c.same_fields-arg-1.given in
    let same : c.same_fields.result ≡ same_fields (length x.fields.now) x.fields.now c.fields-own.result = c.same_fields.ensures in
    same
    ∙ ap (λ (n : ℕ). same_fields n x.fields.now c.fields-own.result) l
    ∙ ap (same_fields field_count x.fields.now) (c.fields-own.ensures ∙ ap row_fields c.row_of.ensures)
    ∙ sym (near round_months m (same_fields field_count x.fields.now (row_fields (row_of m))) c.if-m-ge-MONTHS.false)
