use Rattle.volume_text.specs.Lines.{before_blank, after_blank, has_blank, span_read}
use Rattle.volume_text.proofs.reader.SpanReader.new.Goals as goal

pub returns : goal.returns
unfolding span_read has_blank before_blank after_blank
returns c = rw c.new.ensures
