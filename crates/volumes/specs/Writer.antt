-- The writer (02 §6).
-- Assumes nothing.
use Rattle.std.specs.Prelude.{Result, Ok, Err, ◌&&◌, List, ◌++◌, ℕ, ◌+◌, ◌-◌, ◌*◌, leb, length, drop}
use Rattle.reckoning.specs.Search.{pick}
use Rattle.refusal.specs.declared.Refusal.{Refusal}
use Rattle.units.specs.Xinghe.{is_year}
use Rattle.volumes.specs.Volume.{volume_of}

-- how many years a span has: refused under 1 where the round has not both years, then under 2 where they are in the wrong order
unfoldable pub span_answer : ℕ → ℕ → Result ℕ Refusal
span_answer first last =
    pick (is_year first && is_year last)
    (pick (leb first last) (Ok (last + 1 - first)) (Err Refusal.Span))
    (Err Refusal.Year)

-- how many bytes are written to a buffer of so many: refused as the span is, then under 6 where they are fewer than the volume's
unfoldable pub write_for : Result ℕ Refusal → ℕ → Result ℕ Refusal
write_for (Ok k) room = pick (leb (512 * k) room) (Ok (512 * k)) (Err Refusal.Room)
write_for (Err e) room = Err e

abbrev pub write_answer : ℕ → ℕ → ℕ → Result ℕ Refusal
write_answer first last room = write_for (span_answer first last) room

-- the buffer afterwards: the volume at its front, and the rest as it was; refused, all of it
unfoldable pub buffer_after : Result ℕ Refusal → ℕ → ℕ → List ℕ → List ℕ
buffer_after (Ok n) first last buffer = volume_of first last ++ drop n buffer
buffer_after (Err e) first last buffer = buffer

abbrev pub after_write : ℕ → ℕ → List ℕ → List ℕ
after_write first last buffer = buffer_after (write_answer first last (length buffer)) first last buffer
