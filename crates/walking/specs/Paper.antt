-- 01's own walk (01, "Walks"), which keeps only the month k: if k + c is a month of the round, k becomes it and the answer is the row
-- worked out from the origin for k; otherwise refusal 5, and k stays.
-- Assumes nothing.
use Rattle.std.specs.Prelude.{Result, ℕ, ◌+◌, List, [], ◌∷◌, ℤ, pos, ◌+ℤ◌, ◌-ℤ◌, unsigned_abs}
use Rattle.refusal.specs.declared.Refusal.{Refusal}
use Rattle.reckoning.specs.Search.{pick}
use Rattle.walking.specs.Walk.{Calendar, in_round, landing}
use Rattle.walking.specs.declared.Steps.{Steps}
use Rattle.walking.specs.declared.Arrival.{Arrival}

module _ (size : ℕ) where
  abbrev pub next : ℕ → ℤ → ℕ
  next k c = pick (in_round size (pos k +ℤ c)) (unsigned_abs (pos k +ℤ c)) k

  -- the month in which it ends, and how many counts it answers
  unfoldable pub final_month : ℕ → List ℤ → ℕ
  final_month k [] = k
  final_month k (c ∷ cs) = final_month (next k c) cs

  unfoldable pub answered_steps : ℕ → List ℤ → ℕ
  answered_steps k [] = 0
  answered_steps k (c ∷ cs) = pick (in_round size (pos k +ℤ c)) 1 0 + answered_steps (next k c) cs

  abbrev pub steps_of : ℕ → List ℤ → Steps
  steps_of k cs = record { month = final_month k cs; answered = answered_steps k cs }

  -- with how far it comes: refused counts move nothing, so that is the sum of the answered ones (`sum_is`)
  abbrev pub arrival_of : ℕ → List ℤ → Arrival
  arrival_of k cs = record { month = final_month k cs; sum = pos (final_month k cs) -ℤ pos k; answered = answered_steps k cs }

-- its answers in order
unfoldable pub paper : {R : Type 0} → Calendar R → ℕ → List ℤ → List (Result R Refusal)
paper C k [] = []
paper C k (c ∷ cs) = landing C (pos k +ℤ c) ∷ paper C (next C.size k c) cs
