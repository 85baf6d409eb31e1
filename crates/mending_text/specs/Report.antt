-- What the mending program prints (02 §8): the index of each damaged block, then their number, one a line, then the mended volume; or `refused` and
-- the number, alone.
-- Assumes nothing.
use Rattle.std.specs.Prelude.{Result, Ok, Err, List, [], ◌++◌, ℕ, length}
use Rattle.refusal.specs.declared.Refusal.{Refusal}
use Rattle.writing.specs.Written.{texts}
use Rattle.year_text.specs.Text.{field, refusal_line}
use Rattle.mending.specs.Mended.{damaged, mended, mend_answer}
use Rattle.mending_text.specs.declared.Report.{Report}

-- a number on a line of its own
abbrev pub number_line : ℕ → List ℕ
number_line n = field n 10

-- the lines: the indices and their number, or the refusal
unfoldable pub lines_for : Result ℕ Refusal → List ℕ → List ℕ
lines_for (Ok k) bytes = texts number_line (damaged bytes) ++ number_line k
lines_for (Err e) bytes = refusal_line e

-- the volume after them: the mended one, or nothing
unfoldable pub volume_for : Result ℕ Refusal → List ℕ → List ℕ
volume_for (Ok k) bytes = mended bytes
volume_for (Err e) bytes = []

abbrev pub printed_lines : List ℕ → List ℕ
printed_lines bytes = lines_for (mend_answer bytes) bytes

abbrev pub printed_volume : List ℕ → List ℕ
printed_volume bytes = volume_for (mend_answer bytes) bytes

-- all that is printed for an input
abbrev pub printed : List ℕ → List ℕ
printed bytes = printed_lines bytes ++ printed_volume bytes

-- how many bytes the lines have, and how many the volume after them
abbrev pub report_of : List ℕ → Report
report_of bytes = record { text = length (printed_lines bytes); volume = length (printed_volume bytes) }
