use native.Mathlib.Omega.{arith}
use Rattle.year_text.specs.Text.{head_line, year_word, months_word, leap_word}
use Rattle.year_text.proofs.Lengths.{named_length}
use Rattle.writing.proofs.Writings.{and_then}
use Rattle.year_text.proofs.writer.put_head.Goals as goal

pub put_named-b-requires : goal.put_named-b-requires
put_named-b-requires c =
    omega (arith, c.put_named-a.ensures.long, c.put_named-a.ensures.next, named_length year_word c.args.year, named_length months_word c.args.head.months, named_length leap_word c.args.head.leap)

pub put_named-c-requires : goal.put_named-c-requires
put_named-c-requires c =
    omega (arith, c.put_named-a.ensures.long, c.put_named-a.ensures.next, c.put_named-b.ensures.long, c.put_named-b.ensures.next, named_length year_word c.args.year, named_length months_word c.args.head.months, named_length leap_word c.args.head.leap)

pub put-requires : goal.put-requires
put-requires c =
    omega (arith, c.put_named-a.ensures.long, c.put_named-a.ensures.next, c.put_named-b.ensures.long, c.put_named-b.ensures.next, c.put_named-c.ensures.long, c.put_named-c.ensures.next, named_length year_word c.args.year, named_length months_word c.args.head.months, named_length leap_word c.args.head.leap)

pub returns : goal.returns
unfolding head_line
returns c = and_then (and_then (and_then c.put_named-a.ensures c.put_named-b.ensures) c.put_named-c.ensures) c.put.ensures
