use native.Mathlib.Omega.{arith}
use Rattle.writing.proofs.Writings.{and_then, from_front}
use Rattle.year_text.proofs.Lengths.{field_length}
use Rattle.volume_text.proofs.writer.render.Goals as goal

pub put_field-requires : goal.put_field-requires
put_field-requires c =
    let w = c.put_field-end.ensures in
    omega (arith, w.long, w.next, field_length c.in-Ok.first 32)

pub returns-in-Ok : goal.returns-in-Ok
returns-in-Ok c = rw c.in-Ok.is (from_front (and_then c.put_field-end.ensures c.put_field.ensures))

pub returns-in-Err : goal.returns-in-Err
returns-in-Err c = rw c.in-Err.is (from_front c.put_refusal.ensures)
