-- What holds of the printed rates: no change lowers an amount below 0, and the correction stays from −83,462 to 96,507. One test, computed
-- at each of the 28 days with the day's longest rest, and the law that a shorter rest changes no more.
-- Assumes nothing.
use mathlib.Core.Path.{◌≡◌, refl}
use mathlib.Core.Bool.{Bool, true, false, ◌&&◌}
use mathlib.Core.List.{List}
use Prim.Native.Nat.{ℕ, zero, suc, ◌+◌, ◌-◌, ◌*◌, ◌/◌, ◌%◌, ◌≤◌, min}
use native.Mathlib.Nat.{mul-le-mul_left}
use native.Mathlib.Omega.{arith}
use lib.Dec as D
use lib.Dec.{leb, leb→le}
use lib.IntN.{ℤ, pos}
use lib.ListN.{get_or}
use Rattle.reckoning.specs.Search.{pick, all}
use Rattle.reckoning.proofs.Searches.{all_at, both_left, both_right}
use Rattle.units.specs.Xinghe.{N, C, P, T}
use Rattle.anomaly.specs.Rates.{printed, sum_of}
use Rattle.anomaly.specs.Amounts.{sized_of, amount_of, raises, changed, Lowers, Day, correction_on}
use Rattle.anomaly.specs.Corrections.{anomaly_at, correction_at}

-- the bound on a correction of that sign
abbrev pub limit : Bool → ℕ
limit minus = pick minus 83462 96507

-- the longest rest of a day, in halves: day 28 is cut short by the round's end
abbrev longest : ℕ → ℕ
longest day = min (2 * N - 1) (2 * T - 1 - (day - 1) * (2 * N))

-- the test at one day, over its amount a, the size r of its rate, its longest rest l and its limit m
abbrev test : Bool → ℕ → ℕ → ℕ → ℕ → Bool
test up a r l m = pick up (leb (a + r * l / (2 * C)) m) (leb (r * l / (2 * C)) a && leb a m)

-- what it gives of any rest up to the longest
may_lower : (up : Bool) (a r l m x : ℕ) → D.T (test up a r l m) → x ≤ l → Lowers up a (r * x / (2 * C))
may_lower true a r l m x t h e = let bad : ◌≡◌ {A = ℕ} 0 1 = cc in absurd (omega arith)
may_lower false a r l m x t h e =
    let w = leb→le (r * l / (2 * C)) a (both_left (leb (r * l / (2 * C)) a) (leb a m) t) in
    omega (arith, mul-le-mul_left r h)

within : (up : Bool) (a r l m x : ℕ) → D.T (test up a r l m) → x ≤ l → changed up a (r * x / (2 * C)) ≤ m
within true a r l m x t h = let w = leb→le (a + r * l / (2 * C)) m t in omega (arith, mul-le-mul_left r h)
within false a r l m x t h = let w = leb→le a m (both_right (leb (r * l / (2 * C)) a) (leb a m) t) in omega arith

-- the test of a day of those rates
abbrev fair : List ℤ → ℕ → Bool
fair rates day =
    test (raises day) (amount_of rates day).size (sized_of (get_or rates (day - 1) (pos 0))).size (longest day) (limit (amount_of rates day).minus)

-- the printed rates pass it on every day
all_fair : D.T (all (fair printed) 29)
unfolding amount_of sum_of
all_fair = tt

-- the anomaly's day and rest at an instant in halves
abbrev anomaly_day : ℕ → ℕ
anomaly_day h = h % (2 * T) / (2 * N) + 1

abbrev anomaly_rest : ℕ → ℕ
anomaly_rest h = h % (2 * T) % (2 * N)

-- they are those of the whole parts and the half
same_anomaly : (h : ℕ) → ((anomaly_at h).day ≡ anomaly_day h) × (2 * (anomaly_at h).rest.parts + (anomaly_at h).half ≡ anomaly_rest h)
unfolding anomaly_at
same_anomaly h = omega arith

pub in_halves : (rates : List ℤ) (h : ℕ) → correction_at rates h ≡ correction_on rates (anomaly_day h) (anomaly_rest h)
unfolding correction_at
in_halves rates h = let s = same_anomaly h in rw (s.0, s.1) refl

rest_longest : (h : ℕ) → anomaly_rest h ≤ longest (anomaly_day h)
rest_longest h = omega arith

fair_at : (h : ℕ) → D.T (fair printed (anomaly_day h))
fair_at h = all_at (fair printed) 29 all_fair (anomaly_day h) (omega arith)

-- LOWERING NEVER EXCEEDS THE AMOUNT
pub day_at : (h : ℕ) → Day printed (anomaly_day h) (anomaly_rest h)
day_at h =
    record {
      rates_small = tt;
      from = omega arith;
      upto = omega arith;
      rest_bound = omega arith;
      lowers = may_lower (raises (anomaly_day h)) (amount_of printed (anomaly_day h)).size (sized_of (get_or printed (anomaly_day h - 1) (pos 0))).size (longest (anomaly_day h)) (limit (amount_of printed (anomaly_day h)).minus) (anomaly_rest h) (fair_at h) (rest_longest h);
    }

-- THE CORRECTION STAYS BETWEEN −83,462 AND 96,507, at every instant
pub correction_within : (h : ℕ) → (correction_at printed h).size ≤ limit (correction_at printed h).minus
unfolding correction_on
correction_within h =
    rw (in_halves printed h)
    (within (raises (anomaly_day h)) (amount_of printed (anomaly_day h)).size (sized_of (get_or printed (anomaly_day h - 1) (pos 0))).size (longest (anomaly_day h)) (limit (amount_of printed (anomaly_day h)).minus) (anomaly_rest h) (fair_at h) (rest_longest h))

limit_most : (b : Bool) → limit b ≤ 96507
limit_most true = omega arith
limit_most false = omega arith

pub size_most : (h : ℕ) → (correction_at printed h).size ≤ 96507
size_most h = omega (arith, correction_within h, limit_most (correction_at printed h).minus)

-- at the origin it is 0, so no phase is moved to before the origin
origin : (correction_at printed 0).size ≡ 0
unfolding anomaly_at correction_at correction_on amount_of sum_of
origin = refl

pub not_before : (k : ℕ) → (correction_at printed (k * P)).size ≤ k * P / 2
not_before zero = rw origin (omega arith)
not_before (suc k) = omega (arith, size_most (suc k * P))

-- the printed rates give an amount of 0 on days 1 and 15 alone
pub zero_days : D.T (all (λ (d : ℕ). pick (D.eqb (amount_of printed d).size 0) (pick (leb d 1) true (D.eqb d 15)) true) 29)
unfolding amount_of sum_of
zero_days = tt
