-- Rows carried by signed counts, and walks (01, "Walks"), over any calendar of a round: a row for each month below the round's size.
-- Assumes nothing.
use Rattle.std.specs.Prelude.{Result, Ok, Err, ◌≡◌, ℕ, ◌+◌, ◌<◌, Bool, false, ◌&&◌, List, [], ◌∷◌, ℤ, pos, negsuc, ◌+ℤ◌, nat_lt, unsigned_abs}
use Rattle.refusal.specs.declared.Refusal.{Refusal}
use Rattle.reckoning.specs.Search.{pick}
use Rattle.walking.specs.declared.Walked.{Walked}

-- a calendar of a round: its size, the row of a month, the month that a row names, and a test of two rows for being the same
pub record Calendar (R : Type 0) : Type 0 where
  pub size : ℕ
  pub row : ℕ → R
  pub month : R → ℕ
  pub same : R → R → Bool

-- z is a month of the round
abbrev pub in_round : ℕ → ℤ → Bool
in_round size (pos n) = nat_lt n size
in_round size (negsuc n) = false

module _ {R : Type 0} where
  -- a row is genuine when it names a month of the round and is the same, in every field, as that month's row
  abbrev pub genuine : Calendar R → R → Bool
  genuine C r = nat_lt (C.month r) C.size && C.same r (C.row (C.month r))

  -- the same as a statement: it equals, in every field, the row of the month of the round that it names
  pub record Genuine (C : Calendar R) (r : R) : Type 0 where
    pub in_round_lem : C.month r < C.size
    pub is_row : r ≡ C.row (C.month r)

  -- the row worked out from the origin for month z, or refusal 5 where z is no month of the round
  abbrev pub landing : Calendar R → ℤ → Result R Refusal
  landing C z = pick (in_round C.size z) (Ok (C.row (unsigned_abs z))) (Err Refusal.Carry)

  -- a carry of what is handed in for the row of month m: refusal 4 where that is not genuine; else the row so many months on, in whole numbers
  abbrev pub carry_from : Calendar R → Bool → ℕ → ℤ → Result R Refusal
  carry_from C ok m c = pick ok (landing C (pos m +ℤ c)) (Err Refusal.Row)

  -- a carry of a row
  abbrev pub carry : Calendar R → R → ℤ → Result R Refusal
  carry C r c = carry_from C (genuine C r) (C.month r) c

  -- the row that the next carry is handed: the one answered, or, refused, the one before
  abbrev pub stand : R → Result R Refusal → R
  stand r (Ok s) = s
  stand r (Err e) = r

  -- what an answer adds to the sum of the answered counts, and to their number
  abbrev pub counted : ℤ → Result R Refusal → ℤ
  counted c (Ok s) = c
  counted c (Err e) = pos 0

  abbrev pub one : Result R Refusal → ℕ
  one (Ok s) = 1
  one (Err e) = 0

  -- a walk over a list of counts: its last row, its answers in order, the sum of the answered counts, and how many were answered
  unfoldable pub walk : Calendar R → R → List ℤ → R
  walk C r [] = r
  walk C r (c ∷ cs) = walk C (stand r (carry C r c)) cs

  unfoldable pub along : Calendar R → R → List ℤ → List (Result R Refusal)
  along C r [] = []
  along C r (c ∷ cs) = carry C r c ∷ along C (stand r (carry C r c)) cs

  unfoldable pub total : Calendar R → R → List ℤ → ℤ
  total C r [] = pos 0
  total C r (c ∷ cs) = counted c (carry C r c) +ℤ total C (stand r (carry C r c)) cs

  unfoldable pub number : Calendar R → R → List ℤ → ℕ
  number C r [] = 0
  number C r (c ∷ cs) = one (carry C r c) + number C (stand r (carry C r c)) cs

  -- the walk's last row, sum and number together; carry by carry, each is handed the row that the last answered one gave, at first the row that the
  -- walk starts from
  abbrev pub walked : Calendar R → R → List ℤ → Walked R
  walked C r cs = record { row = walk C r cs; sum = total C r cs; answered = number C r cs }

  -- a walk from a row that is not genuine is refused under 4
  abbrev pub walk_answer : Calendar R → R → List ℤ → Result (Walked R) Refusal
  walk_answer C r cs = pick (genuine C r) (Ok (walked C r cs)) (Err Refusal.Row)
