use native.Mathlib.Omega.{arith}
use Rattle.year_text.specs.Text.{place_text}
use Rattle.year_text.proofs.Lengths.{field_length}
use Rattle.writing.proofs.Writings.{and_then}
use Rattle.year_text.proofs.writer.put_place.Goals as goal

pub put_field-b-requires : goal.put_field-b-requires
put_field-b-requires c =
    omega (arith, c.put_field-a.ensures.long, c.put_field-a.ensures.next, field_length c.args.row.place 32, field_length c.args.row.number 32)

pub put-c-requires : goal.put-c-requires
put-c-requires c =
    omega (arith, c.put_field-a.ensures.long, c.put_field-a.ensures.next, c.put_field-b.ensures.long, c.put_field-b.ensures.next, field_length c.args.row.place 32, field_length c.args.row.number 32)

pub put-requires : goal.put-requires
put-requires c =
    omega (arith, c.put_field-a.ensures.long, c.put_field-a.ensures.next, c.put_field-b.ensures.long, c.put_field-b.ensures.next, c.put-c.ensures.long, c.put-c.ensures.next, field_length c.args.row.place 32, field_length c.args.row.number 32)

pub returns : goal.returns
unfolding place_text
returns c = rw (← c.mark_of.ensures) (and_then (and_then (and_then c.put_field-a.ensures c.put_field-b.ensures) c.put-c.ensures) c.put.ensures)
