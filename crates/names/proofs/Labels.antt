-- What follows of labels (02 §3): their numbers, whose list is taken, their bytes, and that the sixty names are the list.
-- Assumes nothing.
use Rattle.names.specs.declared.NameLocation.{NameLocation}
use Rattle.std.specs.Prelude.{Result, Ok, Err}
use Rattle.refusal.specs.Numbers.{answer_number}
use mathlib.Core.Path.{◌≡◌, refl, ap, ◌∙◌}
use mathlib.Core.Logic.{◌⊎◌, ⊎_elim}
use mathlib.Core.List.{flatten}
use Prim.Native.Nat.{ℕ, suc, ◌+◌, ◌-◌, ◌*◌, ◌<◌, ◌≤◌}
use native.Mathlib.Omega.{arith}
use lib.Dec.{T}
use lib.ListN.{drop, get_or, length-drop}
use lib.Seq.{get_or-take, get_or-drop, length-take-le}
use Rattle.reckoning.specs.Search.{pick, list_from}
use Rattle.reckoning.proofs.Searches.{between_T, between_low, through, list_same}
use Rattle.refusal.specs.declared.Refusal.{Refusal}
use Rattle.lunisolar.specs.Sixty.{sixty, sexagenary_of}
use Rattle.lunisolar.proofs.Sexagenary.{sexagenary_low, sexagenary_high}
use Rattle.names.specs.Names.{name_bytes, list_bytes, Bytes, size, slice, is_list, in_sixty, name_at, location_for, name_from, label_of, label_number}
use Rattle.names.specs.declared.Whose.{Whose}
use Rattle.names.proofs.Locations.{location_cases, name_in_list}
use Rattle.names.proofs.Chunks.{joined}

-- name i of a list: its bytes from 6(i − 1) to 6i
abbrev pub name_in : Bytes → ℕ → Bytes
name_in list i = slice list (name_bytes * (i - 1)) (name_bytes * i)

module _ (i : ℕ) (theirs house : Bytes) where
  -- 3 FOR A DAY OUTSIDE 1 TO 60, THEN 10 IF NEITHER LIST IS 360 BYTES
  pub label_numbers : label_number i theirs house ≡ pick (in_sixty i) (pick (is_list (size theirs)) 0 (pick (is_list (size house)) 0 10)) 3
  unfolding location_for
  label_numbers =
      let in-house : Result NameLocation Refusal = Ok (name_at Whose.House i) in
      let neither : Result NameLocation Refusal = Err Refusal.Names in
      through answer_number (in_sixty i) _ _
      ∙ ap (λ (x : ℕ). pick (in_sixty i) x 3)
      (through answer_number (is_list (size theirs)) _ _
      ∙ ap (λ (x : ℕ). pick (is_list (size theirs)) 0 x) (through answer_number (is_list (size house)) in-house neither))

  -- a name ends where the next begins
  ends : T (in_sixty i) → name_bytes * (i - 1) + name_bytes ≡ name_bytes * i
  ends d = omega (arith, between_low 1 i (suc sixty) d)

  -- THEIRS IS TAKEN WHENEVER IT IS 360 BYTES, so of two such lists too
  pub theirs_taken : T (in_sixty i) → size theirs ≡ list_bytes → label_of i theirs house ≡ name_in theirs i
  theirs_taken d e =
      location_cases i (size theirs) (size house) (λ a. name_from a theirs house ≡ name_in theirs i)
      (λ _ _. ap (slice theirs (name_bytes * (i - 1))) (ends d))
      (λ _ n _. absurd (n e))
      (λ _ n _. absurd (n e))
      (λ n. absurd (n d))

  -- THE HOUSE'S IS TAKEN OTHERWISE, IF IT IS 360 BYTES
  pub house_otherwise : T (in_sixty i) → ¬ (size theirs ≡ list_bytes) → size house ≡ list_bytes → label_of i theirs house ≡ name_in house i
  house_otherwise d n e =
      location_cases i (size theirs) (size house) (λ a. name_from a theirs house ≡ name_in house i)
      (λ _ q. absurd (n q))
      (λ _ _ _. ap (slice house (name_bytes * (i - 1))) (ends d))
      (λ _ _ m. absurd (m e))
      (λ m. absurd (m d))

  -- THE NUMBER IS 0 EXACTLY WHEN THE PART HAS SIX BYTES
  pub six_of_0 : label_number i theirs house ≡ 0 → size (label_of i theirs house) ≡ name_bytes
  six_of_0 =
      location_cases i (size theirs) (size house) (λ a. answer_number a ≡ 0 → size (name_from a theirs house) ≡ name_bytes)
      (λ d e _. six theirs d e)
      (λ d _ e _. six house d e)
      (λ _ _ _ q. absurd (omega (arith, q)))
      (λ _ q. absurd (omega (arith, q)))
    where
      six : (list : Bytes) → T (in_sixty i) → size list ≡ list_bytes → size (slice list (name_bytes * (i - 1)) (name_bytes * (i - 1) + name_bytes)) ≡ name_bytes
      six list d e =
          let a : ℕ = name_bytes * (i - 1) in
          let w : a + name_bytes - a ≡ name_bytes = omega arith in
          rw w (length-take-le name_bytes (drop a list.contents) (rw (length-drop a list.contents, e) (omega (arith, name_in_list i d))))

  pub 0-of-six : size (label_of i theirs house) ≡ name_bytes → label_number i theirs house ≡ 0
  0-of-six =
      location_cases i (size theirs) (size house) (λ a. size (name_from a theirs house) ≡ name_bytes → answer_number a ≡ 0)
      (λ _ _ _. refl)
      (λ _ _ _ _. refl)
      (λ _ _ _ q. absurd (omega (arith, q)))
      (λ _ q. absurd (omega (arith, q)))

  -- REFUSED, THE PART IS EMPTY, AT THE BEGINNING OF THEIRS
  pub refused_empty : ¬ (label_number i theirs house ≡ 0) → label_of i theirs house ≡ slice theirs 0 0
  refused_empty =
      location_cases i (size theirs) (size house) (λ a. ¬ (answer_number a ≡ 0) → name_from a theirs house ≡ slice theirs 0 0)
      (λ _ _ n. absurd (n refl))
      (λ _ _ _ n. absurd (n refl))
      (λ _ _ _ _. refl)
      (λ _ _. refl)

-- BYTE k OF NAME i IS BYTE 6(i − 1) + k OF THE LIST
pub name_bytes_lem : (list : Bytes) (i k : ℕ) → 1 ≤ i → k < name_bytes → get_or (name_in list i).contents k 0 ≡ get_or list.contents (name_bytes * (i - 1) + k) 0
name_bytes_lem list i k h g =
    let a : ℕ = name_bytes * (i - 1) in
    get_or-take (name_bytes * i - a) (drop a list.contents) k 0 (omega arith)
    ∙ get_or-drop a list.contents k 0

-- THE SIXTY NAMES OF A LIST, JOINED, ARE THE LIST
pub names_joined : (list : Bytes) → size list ≡ list_bytes → flatten (list_from (λ i. (name_in list i).contents) 1 sixty) ≡ list.contents
unfolding list_from
names_joined list h = joined name_bytes list.contents sixty 0 h

-- labels that are the names of one list, joined, are that list
labels_are : (theirs house list : Bytes) → ((i : ℕ) → T (in_sixty i) → label_of i theirs house ≡ name_in list i) → size list ≡ list_bytes → flatten (list_from (λ i. (label_of i theirs house).contents) 1 sixty) ≡ list.contents
labels_are theirs house list named h =
    ap flatten
    (list_same (λ i. (label_of i theirs house).contents) (λ i. (name_in list i).contents) sixty 1
    (λ i a b. ap (λ (s : Bytes). s.contents) (named i (between_T 1 i (suc sixty) a b))))
    ∙ names_joined list h

-- THE SIXTY LABELS, JOINED, ARE THEIRS, OR THE HOUSE'S OTHERWISE
pub labels_theirs : (theirs house : Bytes) → size theirs ≡ list_bytes → flatten (list_from (λ i. (label_of i theirs house).contents) 1 sixty) ≡ theirs.contents
labels_theirs theirs house e = labels_are theirs house theirs (λ i d. theirs_taken i theirs house d e) e

pub labels_house : (theirs house : Bytes) → ¬ (size theirs ≡ list_bytes) → size house ≡ list_bytes → flatten (list_from (λ i. (label_of i theirs house).contents) 1 sixty) ≡ house.contents
labels_house theirs house n e = labels_are theirs house house (λ i d. house_otherwise i theirs house d n e) e

-- THE DAY OF THE SIXTY OF EVERY DAY IS 1 TO 60
pub day_in_sixty : (d : ℕ) → T (in_sixty (sexagenary_of d))
day_in_sixty d = between_T 1 (sexagenary_of d) (suc sixty) (sexagenary_low d) (omega (arith, sexagenary_high d))

-- EVERY DAY OF THE CALENDAR HAS A LABEL WHERE ONE OF THE LISTS IS 360 BYTES
pub day_named : (d : ℕ) (theirs house : Bytes) → (size theirs ≡ list_bytes) ⊎ (size house ≡ list_bytes) → label_number (sexagenary_of d) theirs house ≡ 0
day_named d theirs house either =
    location_cases (sexagenary_of d) (size theirs) (size house) (λ a. answer_number a ≡ 0)
    (λ _ _. refl)
    (λ _ _ _. refl)
    (λ _ n m. absurd (⊎_elim n m either))
    (λ n. absurd (n (day_in_sixty d)))
