use mathlib.Core.Path.{refl}
use Rattle.year_text.specs.Decimal.{all_digits, value_from}
use Rattle.year_text.specs.Lines.{read_of}
use Rattle.year_text.proofs.reader.Reader.new.Goals as goal

pub returns : goal.returns
unfolding read_of all_digits value_from
returns c = refl
