-- Accumulated amounts and corrections, worked out from any list of rates (01, "The moon's correction").
-- Assumes nothing.
use Rattle.std.specs.Prelude.{Bool, true, false, ◌&&◌, ◌||◌, List, ℕ, suc, ◌+◌, ◌-◌, ◌*◌, ◌/◌, ◌≤◌, ◌<◌, ◌≡◌, T, leb, eqb, ℤ, pos, negsuc, neg_ℤ, get_or}
use Rattle.reckoning.specs.Search.{pick}
use Rattle.units.specs.Xinghe.{N, C}
use Rattle.anomaly.specs.Rates.{small, sum_of}
use Rattle.anomaly.specs.declared.amounts.Amount.{Amount}

-- a whole number by its sign and its size, and back, with one nought
abbrev pub sized_of : ℤ → Amount
sized_of (pos n) = record { minus = false; size = n }
sized_of (negsuc n) = record { minus = true; size = suc n }

abbrev pub signed_of : Amount → ℤ
signed_of a = pick a.minus (neg_ℤ (pos a.size)) (pos a.size)

-- s·N / 7,513, rounded half up
abbrev pub rounded : ℕ → ℕ
rounded s = (2 * (s * N) + C) / (2 * C)

-- the accumulated amount: of the running sum before a day; it has the sum's sign, or, where it is 0, plus, but minus on day 15
unfoldable pub amount_of : List ℤ → ℕ → Amount
amount_of rates day =
    record {
      minus = (sized_of (sum_of rates (day - 1))).minus || (eqb (sized_of (sum_of rates (day - 1))).size 0 && eqb day 15);
      size = rounded (sized_of (sum_of rates (day - 1))).size;
    }

-- |rate|·rest / 7,513, rounded down, of a rest in halves
abbrev pub change : ℤ → ℕ → ℕ
change rate rest = (sized_of rate).size * rest / (2 * C)

-- 益: days 1 to 7 and 15 to 21 raise the amount, and the others lower it
abbrev pub raises : ℕ → Bool
raises day = leb day 7 || (leb 15 day && leb day 21)

abbrev pub changed : Bool → ℕ → ℕ → ℕ
changed up amount change = pick up (amount + change) (amount - change)

-- a change that lowers does not exceed the amount
abbrev pub Lowers : Bool → ℕ → ℕ → Type 0
Lowers up amount change = up ≡ false → change ≤ amount

-- the correction on a day at a rest in halves
unfoldable pub correction_on : List ℤ → ℕ → ℕ → Amount
correction_on rates day rest =
    record {
      minus = (amount_of rates day).minus;
      size = changed (raises day) (amount_of rates day).size (change (get_or rates (day - 1) (pos 0)) rest);
    }

-- rates from −1,000 to 1,000, a day of the anomaly, and a rest in halves whose change lowers no amount below 0
pub record Day (rates : List ℤ) (day rest : ℕ) : Type 0 where
  pub rates_small : T (small rates)
  pub from : 0 < day
  pub upto : day ≤ 28
  pub rest_bound : rest ≤ 2 * N
  pub lowers : Lowers (raises day) (amount_of rates day).size (change (get_or rates (day - 1) (pos 0)) rest)
