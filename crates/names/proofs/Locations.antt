-- Where a name is found (02 §3), case by case.
-- Assumes nothing.
use Rattle.names.specs.declared.NameLocation.{NameLocation}
use Rattle.std.specs.Prelude.{Result, Ok, Err}
use mathlib.Core.Path.{◌≡◌}
use Prim.Native.Nat.{ℕ, suc, ◌+◌, ◌-◌, ◌*◌, ◌≤◌}
use native.Mathlib.Omega.{arith}
use lib.Dec.{T, eqb→eq, eqb_refl}
use Rattle.reckoning.proofs.Searches.{pick_cases, between_low, between_high}
use Rattle.refusal.specs.declared.Refusal.{Refusal}
use Rattle.lunisolar.specs.Sixty.{sixty}
use Rattle.names.specs.Names.{name_bytes, list_bytes, Bytes, size, is_list, in_sixty, name_at, location_for, list_of, label_location}
use Rattle.names.specs.declared.Whose.{Whose}

-- what holds in each of the four cases holds of the answer
module _ (i t h : ℕ) (P : Result NameLocation Refusal → Type 0) where
  pub location_cases :
      (T (in_sixty i) → t ≡ list_bytes → P (Ok (name_at Whose.Theirs i)))
      → (T (in_sixty i) → ¬ (t ≡ list_bytes) → h ≡ list_bytes → P (Ok (name_at Whose.House i)))
      → (T (in_sixty i) → ¬ (t ≡ list_bytes) → ¬ (h ≡ list_bytes) → P (Err Refusal.Names))
      → (¬ (T (in_sixty i)) → P (Err Refusal.DayOfSixty))
      → P (location_for i t h)
  unfolding location_for
  location_cases theirs house names day =
      pick_cases P (in_sixty i) _ _
      (λ d. pick_cases P (is_list t) _ _
      (λ e. theirs d (eqb→eq t list_bytes e))
      (λ n. pick_cases P (is_list h) _ _
      (λ e. house d (λ q. n (same t q)) (eqb→eq h list_bytes e))
      (λ m. names d (λ q. n (same t q)) (λ q. m (same h q)))))
      day
    where
      same : (n : ℕ) → n ≡ list_bytes → T (is_list n)
      same n q = rw q (eqb_refl list_bytes)

-- the six bytes from where a day's name begins lie in a list of sixty names
pub name_in_list : (i : ℕ) → T (in_sixty i) → name_bytes * (i - 1) + name_bytes ≤ list_bytes
name_in_list i d = omega (arith, between_low 1 i (suc sixty) d, between_high 1 i (suc sixty) d)

-- a name's location is in a list of 360 bytes, and its six bytes lie in that list
abbrev pub Fits : Result NameLocation Refusal → Bytes → Bytes → Type 0
Fits (Ok location) theirs house = (location.from + name_bytes ≤ list_bytes) × (size (list_of location.whose theirs house) ≡ list_bytes)
Fits (Err e) theirs house = Unit {0}

-- EVERY ANSWERED LOCATION HAS ITS SIX BYTES IN A LIST OF 360 BYTES
pub location_fits : (i : ℕ) (theirs house : Bytes) → Fits (label_location i theirs house) theirs house
location_fits i theirs house =
    location_cases i (size theirs) (size house) (λ a. Fits a theirs house)
    (λ d e. (name_in_list i d, e))
    (λ d n e. (name_in_list i d, e))
    (λ d n m. tt)
    (λ d. tt)
