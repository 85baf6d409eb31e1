-- The starred cases follow from the definitions: the months before a year and the year of a month by their closed forms, all else computed.
-- Assumes nothing.
use mathlib.Core.Path.{◌≡◌, refl}
use Prim.Native.Nat.{◌+◌, ◌-◌, ◌*◌, ◌/◌}
use Rattle.reckoning.specs.Search.{between, first_from, any}
use Rattle.reckoning.specs.Rule.{Rule, month_count, is_leap, leap_place, month_number, place_of}
use Rattle.reckoning.specs.Means.{new_moon, new_moon_rest, term_day}
use Rattle.reckoning.specs.Days.{term_in}
use Rattle.reckoning.specs.Chapters.{chapter_rest}
use Rattle.reckoning.proofs.Days.{figured}
use Rattle.lunisolar.specs.Calendars.{year_at, lunation_for}
use Rattle.lunisolar.specs.Names.{name_of}
use Rattle.lunisolar.specs.Dates.{month_days}
use Rattle.mean_calendar.specs.Months.{month_of}
use Rattle.units.specs.Xinghe.{N, P, means, rule}
use Rattle.units.proofs.Sound.{sound}
use Rattle.sun.specs.Solstices.{solstice_of}
use Rattle.moon.specs.NewMoons.{new_moon_of, length_of}
use Rattle.calendar.specs.Heads.{head_of, head_for}
use Rattle.calendar.specs.Rows.{row_of, row_for}
use Rattle.calendar.proofs.Round.{year_closed}
use Rattle.node.specs.Eclipses.{distance_of, eclipse_at, eclipse_of, no_eclipse, node_at}
use Rattle.node.specs.Sides.{passed, side_of}
use Rattle.node.specs.Nodes.{nodes_of}
use Rattle.anomaly.specs.Rates.{sum_of}
use Rattle.anomaly.specs.Amounts.{amount_of, correction_on}
use Rattle.anomaly.specs.Corrections.{anomaly_at, correction_at, moved, corrected_at, corrections_of}
use Rattle.ephemeris.specs.Jobs.{nodes_for, corrections_for}
use Rattle.starred.specs.Cases.{table, All}

-- the rule with the months before a year by a division
abbrev closed : Rule
closed = record { before = λ y. (term_day means (12 * y) * N + (N - 1)) / P; holds = term_in means }

is_closed : rule ≡ closed
is_closed = figured means sound.moon sound.sun

pub starred : All table
unfolding between first_from any month_count is_leap leap_place month_number place_of new_moon new_moon_rest term_day term_in chapter_rest year_at lunation_for name_of solstice_of new_moon_of length_of head_of head_for row_of row_for month_days distance_of eclipse_at eclipse_of no_eclipse node_at passed side_of nodes_of sum_of amount_of correction_on anomaly_at correction_at moved corrected_at corrections_of nodes_for corrections_for month_of
starred =
    (rw is_closed refl, ((rw is_closed refl, rw (is_closed, year_closed 0, is_closed) refl, refl), (rw is_closed refl, (rw is_closed refl, (rw is_closed refl, (rw is_closed refl, (rw is_closed refl, (rw is_closed refl, ((rw is_closed refl, rw (is_closed, year_closed 12511799, is_closed) refl, refl), (refl, (rw is_closed (refl, refl, refl, refl, refl), ((rw is_closed refl, rw is_closed refl), (rw is_closed (refl, refl, refl, refl), ((rw is_closed refl, refl, rw is_closed refl), (rw is_closed refl, ((rw is_closed refl, rw (is_closed, year_closed 3636238, is_closed) refl, refl), ((rw is_closed refl, rw (is_closed, year_closed 3636245, is_closed) refl, refl), ((rw is_closed refl, rw (is_closed, year_closed 3636246, is_closed) refl, refl), (rw is_closed (refl, refl, refl, refl, refl), (rw is_closed (refl, refl), ((rw is_closed refl, rw is_closed refl), (rw is_closed refl, tt))))))))))))))))))))))
