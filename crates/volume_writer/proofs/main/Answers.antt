use Rattle.std.proofs.Common.{arith, sym}
use Rattle.volumes.proofs.Answered.{span_of}
use Rattle.year_text.specs.Lines.{year_read}
use Rattle.volume_text.specs.Lines.{last_year}
use Rattle.volume_writer.proofs.main.Goals as goal

pub write_blocks-requires : goal.write_blocks-requires
write_blocks-requires c =
    let r = c.read_span-reader.result in
    let s = span_of (year_read r.first) (last_year r) c.in-Ok.n (sym c.in-Ok.ensures) in
    rw c.year.ensures (s.0.least, omega (arith, s.0.order, s.0.most, s.1))
