-- The values of a job's answer, or the default ones.
-- Assumes nothing.
use Rattle.std.specs.Prelude.{◌≡◌, Result, Ok, Err}
use Rattle.std.specs.Result.{ResultUnwrapsOrElse, result_unwrap_or}

-- where only z is a default value
pub unwrapped : {T E : Type 0} {P : T → Type 0} (r : Result T E) (z x : T) → ((y : T) → P y → y ≡ z) → ResultUnwrapsOrElse r P x → x ≡ result_unwrap_or r z
unwrapped (Ok y) z x only e = e
unwrapped (Err e) z x only p = only x p
