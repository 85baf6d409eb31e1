use native.Mathlib.Omega.{arith}
use Rattle.year_text.specs.Text.{moon_text}
use Rattle.year_text.proofs.Lengths.{field_length}
use Rattle.writing.proofs.Writings.{and_then}
use Rattle.year_text.proofs.writer.put_moon.Goals as goal

pub put_field-b-requires : goal.put_field-b-requires
put_field-b-requires c =
    omega (arith, c.put_field-a.ensures.long, c.put_field-a.ensures.next, field_length c.sexagenary.result 32, field_length c.args.row.remainder.parts 32)

pub put_field-requires : goal.put_field-requires
put_field-requires c =
    omega (arith, c.put_field-a.ensures.long, c.put_field-a.ensures.next, c.put_field-b.ensures.long, c.put_field-b.ensures.next, field_length c.sexagenary.result 32, field_length c.args.row.remainder.parts 32)

pub returns : goal.returns
unfolding moon_text
returns c = rw (← c.sexagenary.ensures) (and_then (and_then c.put_field-a.ensures c.put_field-b.ensures) c.put_field.ensures)
