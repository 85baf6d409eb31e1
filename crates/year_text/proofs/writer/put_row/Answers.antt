use native.Mathlib.Omega.{arith}
use Rattle.year_text.specs.Text.{month_line}
use Rattle.year_text.proofs.Lengths.{place_length}
use Rattle.writing.proofs.Writings.{and_then}
use Rattle.year_text.proofs.writer.put_row.Goals as goal

pub put_moon-requires : goal.put_moon-requires
put_moon-requires c =
    omega (arith, c.put_place-after.ensures.long, c.put_place-after.ensures.next, place_length c.args.row)

pub returns : goal.returns
unfolding month_line
returns c = and_then c.put_place-after.ensures c.put_moon.ensures
