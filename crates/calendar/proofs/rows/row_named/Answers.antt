use mathlib.Core.Path.{◌≡◌, refl}
use Prim.Native.Nat.{◌*◌}
use Rattle.reckoning.specs.Means.{new_moon, new_moon_rest}
use Rattle.lunisolar.specs.Dates.{month_days}
use Rattle.lunisolar.proofs.Days.{length_is}
use Rattle.mean_calendar.specs.Parts.{over_day}
use Rattle.mean_calendar.specs.Months.{month_of}
use Rattle.mean_calendar.specs.declared.parts.DayShare.{DayShare}
use Rattle.units.specs.Xinghe.{P, xinghe}
use Rattle.units.proofs.Sound.{sound}
use Rattle.moon.specs.NewMoons.{new_moon_of, length_of}
use Rattle.anomaly.proofs.Steps.{into_is_anomaly}
use Rattle.calendar.specs.Rows.{row_of}
use Rattle.calendar.proofs.rows.row_named.Goals as goal

-- the new moon that is at hand is the month's
share : (a : goal.After-constants-k) → (let x = a.args in ◌≡◌ {A = DayShare} (record { whole = x.elements.moon.day; rest = record { parts = x.elements.moon.remainder.parts } }) (over_day xinghe (x.lunation * P)))
unfolding new_moon_of new_moon new_moon_rest
share a = rw a.requires.2 refl

-- and its length
length : (a : goal.After-constants-k) → a.length_of-length.result ≡ month_days xinghe a.args.lunation
unfolding new_moon_of length_of
length a = rw (a.length_of-length.ensures, a.requires.2) (length_is xinghe sound a.args.lunation)

is_month : (a : goal.After-result-3-1) → a.month_by-month.result ≡ month_of xinghe a.args.lunation
is_month a = rw a.constants-k.ensures at a.month_by-month.ensures

pub month_by-month-requires : goal.month_by-month-requires
month_by-month-requires c = rw c.constants-k.ensures (c.requires.1, share c, length c)

pub returns : goal.returns
unfolding row_of month_of new_moon_of
returns c =
    rw (c.anomaly_in-anomaly.ensures, c.side-side.ensures, c.distance-distance.ensures, is_month c, c.requires.2, into_is_anomaly c.args.lunation) refl
