-- The corrections of a month's new and full moon (01, "The moon's correction"). An instant of h halves stands for h/2 parts over N.
-- Assumes nothing.
use Rattle.std.specs.Prelude.{◌≡◌, false, List, ℕ, ◌+◌, ◌-◌, ◌*◌, ◌/◌, ◌%◌, ◌≤◌, ◌<◌, leb, ltb, ℤ}
use Rattle.reckoning.specs.Search.{pick}
use Rattle.units.specs.Xinghe.{N, P, T}
use Rattle.units.specs.Units.{DayRemainder, DayCarry}
use Rattle.anomaly.specs.Rates.{printed}
use Rattle.anomaly.specs.Amounts.{signed_of, correction_on}
use Rattle.anomaly.specs.declared.amounts.Amount.{Amount}
use Rattle.anomaly.specs.declared.Anomaly.{Anomaly}
use Rattle.anomaly.specs.declared.Corrected.{Corrected}
use Rattle.anomaly.specs.declared.Corrections.{Corrections}

-- the new moon of month m lies at 2·m half months, the full moon one later: their instants in halves
abbrev pub new_moon_at : ℕ → ℕ
new_moon_at m = 2 * m * P

abbrev pub full_moon_at : ℕ → ℕ
full_moon_at m = (2 * m + 1) * P

-- the rest of an instant mod T: whole days from 1, whole parts, and the half
unfoldable pub anomaly_at : ℕ → Anomaly
anomaly_at h =
    record { day = h % (2 * T) / 2 / N + 1; rest = record { parts = h % (2 * T) / 2 % N }; half = h % (2 * T) % 2 }

-- the correction at an instant, by the day and the rest of its anomaly, the rest in halves
unfoldable pub correction_at : List ℤ → ℕ → Amount
correction_at rates h = correction_on rates (anomaly_at h).day (2 * (anomaly_at h).rest.parts + (anomaly_at h).half)

-- a day and remainder, so many parts later or earlier: the day moves by one where the remainder leaves its range
abbrev at : ℕ → ℕ → DayCarry
at day parts = record { whole = day; remainder = record { parts = parts } }

abbrev pub later : ℕ → ℕ → ℕ → DayCarry
later day r c = pick (ltb (r + c) N) (at day (r + c)) (at (day + 1) (r + c - N))

abbrev pub earlier : ℕ → ℕ → ℕ → DayCarry
earlier day r c = pick (leb c r) (at day (r - c)) (at (day - 1) (r + N - c))

-- a positive correction is taken from the remainder, a negative one is added
unfoldable pub moved : ℕ → DayRemainder → Amount → DayCarry
moved day r k = pick k.minus (later day r.parts k.size) (earlier day r.parts k.size)

-- a remainder over N, and a correction of at most a day that doesn't lead to before the origin
pub record CorrectionBound (day : ℕ) (r : DayRemainder) (k : Amount) : Type 0 where
  pub day_bound : day < 4294967296
  pub remainder : r.parts < N
  pub size : k.size ≤ N
  pub origin : k.minus ≡ false → k.size ≤ day * N + r.parts

-- the phase at an instant, with its anomaly and its correction, corrected; the half stays
abbrev pub moved_at : ℕ → DayCarry
moved_at h = moved (h / 2 / N) (record { parts = h / 2 % N }) (correction_at printed h)

unfoldable pub corrected_at : ℕ → Corrected
corrected_at h =
    record {
      anomaly = anomaly_at h;
      correction = signed_of (correction_at printed h);
      day = (moved_at h).whole;
      remainder = (moved_at h).remainder;
      half = h % 2;
    }

unfoldable pub corrections_of : ℕ → Corrections
corrections_of m = record { new = corrected_at (new_moon_at m); full = corrected_at (full_moon_at m) }
