use Rattle.writing.proofs.Writings.{and_then}
use Rattle.year_text.proofs.writer.put_refusal.Goals as goal

pub returns : goal.returns
returns c =
    let text = and_then c.put_text-end.ensures c.put_field.ensures in
    rw c.number.ensures at text
