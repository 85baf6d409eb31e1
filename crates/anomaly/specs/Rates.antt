-- The signed rates of the anomaly (01, "The moon's correction").
-- Assumes nothing.
use Rattle.std.specs.Prelude.{Bool, true, ◌&&◌, List, [], ◌∷◌, ℕ, zero, suc, leb, ℤ, pos, neg_ℤ, nat_abs, ◌+ℤ◌}

abbrev plus : ℕ → ℤ
plus n = pos n

abbrev minus : ℕ → ℤ
minus n = neg_ℤ (pos n)

-- the rates of days 1 to 28, as 01 gives them
abbrev pub printed : List ℤ
printed =
    plus 757 ∷ plus 689 ∷ plus 616 ∷ plus 545 ∷ plus 466 ∷ plus 315 ∷ plus 89
    ∷ minus 139 ∷ minus 283 ∷ minus 390 ∷ minus 502 ∷ minus 618 ∷ minus 729 ∷ minus 816
    ∷ minus 731 ∷ minus 646 ∷ minus 558 ∷ minus 445 ∷ minus 334 ∷ minus 214 ∷ minus 79
    ∷ plus 63 ∷ plus 225 ∷ plus 388 ∷ plus 549 ∷ plus 674 ∷ plus 701 ∷ plus 734
    ∷ []

-- each rate is from −1,000 to 1,000
abbrev pub small : List ℤ → Bool
small [] = true
small (r ∷ rs) = leb (nat_abs r) 1000 && small rs

-- the sum of the first k rates
unfoldable pub sum_of : List ℤ → ℕ → ℤ
sum_of rs zero = pos 0
sum_of [] (suc k) = pos 0
sum_of (r ∷ rs) (suc k) = r +ℤ sum_of rs k
