-- What is made of a year that is sought: of one of the round by its years past, of any other by refusal 1.
-- Assumes nothing.
use Rattle.std.specs.Prelude.{Result, Ok, Err}
use mathlib.Core.Path.{◌≡◌}
use Prim.Native.Nat.{ℕ, ◌-◌}
use Rattle.reckoning.specs.Search.{pick}
use Rattle.refusal.specs.declared.Refusal.{Refusal}
use Rattle.lunisolar.specs.Calendars.{year_at}
use Rattle.lunisolar.proofs.Numbers as numbers
use Rattle.units.specs.Xinghe.{xinghe, is_year}

pub of_year : {B : Type 0} (f : Result ℕ Refusal → B) (n : ℕ) → f (year_at xinghe n) ≡ pick (is_year n) (f (Ok (n - 1))) (f (Err Refusal.Year))
of_year f n = numbers.of_year xinghe f n
