-- The points of a cut of the year (01, "Phases and cuts of the year"), in any calendar.
-- Assumes nothing.
use Rattle.std.specs.Prelude.{Result, Ok, Err, Bool, ◌&&◌, ◌||◌, ℕ, ◌+◌, ◌*◌, ◌/◌, ◌%◌, eqb, ltb}
use Rattle.reckoning.specs.Search.{pick}
use Rattle.refusal.specs.declared.Refusal.{Refusal}
use Rattle.lunisolar.specs.Calendars.{year_at}
use Rattle.lunisolar.specs.declared.Constants.{Constants}
use Rattle.mean_calendar.specs.Parts.{over_degree}
use Rattle.mean_calendar.specs.declared.MeanPoint.{MeanPoint}

-- the year is cut in 24 terms, 72 pentads or 60 hexagram days
abbrev pub is_cut : ℕ → Bool
is_cut c = eqb c 24 || eqb c 60 || eqb c 72

-- point i of cut c is the solstice plus i/c of a year, which is y·c + i times the year over c: whole days, whole parts over the degree divisor, and the
-- rest over c
unfoldable pub point_of : Constants → ℕ → ℕ → ℕ → MeanPoint
point_of k y c i =
    record {
      day = (over_degree k ((y * c + i) * k.year / c)).whole;
      remainder = (over_degree k ((y * c + i) * k.year / c)).rest;
      rest = (y * c + i) * k.year % c;
    }

-- of the year with y years past: refused under 8 where the cut is not 24, 60 or 72, or the point not below it
unfoldable pub point_in : Constants → ℕ → ℕ → ℕ → Result MeanPoint Refusal
point_in k y c i = pick (is_cut c && ltb i c) (Ok (point_of k y c i)) (Err Refusal.Cut)

-- of year n as it is written: refused under 1 first
unfoldable pub point_for : Constants → Result ℕ Refusal → ℕ → ℕ → Result MeanPoint Refusal
point_for k (Ok y) c i = point_in k y c i
point_for k (Err e) c i = Err e

abbrev pub cut_point : Constants → ℕ → ℕ → ℕ → Result MeanPoint Refusal
cut_point k n c i = point_for k (year_at k n) c i
