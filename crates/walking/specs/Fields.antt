-- Rows as lists of numbers: so others are handed rows, and hand them in.
-- Assumes nothing.
use Rattle.std.specs.Prelude.{Result, Ok, Err, ℕ, Bool, cond, ◌&&◌, List, ℤ, nat_eq, nat_lt, slice_index}
use Rattle.refusal.specs.declared.Refusal.{Refusal}
use Rattle.reckoning.specs.Search.{pick, all}
use Rattle.walking.specs.Walk.{Calendar, carry_from, walked}
use Rattle.walking.specs.declared.Walked.{Walked}

-- yes is 1 and no is 0
abbrev pub bit_of : Bool → ℕ
bit_of b = cond b 1 0

-- of two lists of a row's numbers, of which there are n: the same number at each place
unfoldable pub same_fields : ℕ → List ℕ → List ℕ → Bool
same_fields n f g = all (λ (i : ℕ). nat_eq (slice_index f i) (slice_index g i)) n

-- the month that a row handed in as numbers names
abbrev pub named_month : List ℕ → ℕ
named_month f = slice_index f 0

-- of a calendar whose rows are written as n numbers: a row handed in is genuine where it names a month of the round and has the numbers of that
-- month's row; and its carry by a count
module _ {R : Type 0} (C : Calendar R) (n : ℕ) (fields : R → List ℕ) where
  abbrev pub genuine_by : List ℕ → Bool
  genuine_by f = nat_lt (named_month f) C.size && same_fields n f (fields (C.row (named_month f)))

  abbrev pub carried_by : List ℕ → ℤ → Result R Refusal
  carried_by f c = carry_from C (genuine_by f) (named_month f) c

  -- and its walk: from the row that they are, and refused under 4 where they are no genuine row's
  abbrev pub walked_by : List ℕ → List ℤ → Result (Walked R) Refusal
  walked_by f cs = pick (genuine_by f) (Ok (walked C (C.row (named_month f)) cs)) (Err Refusal.Row)

-- the row of the month on which a carry lands; refused as the carry is
abbrev pub row_on : {R : Type 0} → Calendar R → Result ℕ Refusal → Result R Refusal
row_on C (Ok k) = Ok (C.row k)
row_on C (Err e) = Err e
