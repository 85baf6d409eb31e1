-- The jobs of the sky (01, "Phases and cuts of the year", "Nodes and eclipses", "The moon's correction"), on all inputs.
-- Assumes nothing.
use Rattle.sun.specs.declared.Point.{Point}
use Rattle.anomaly.specs.declared.Corrections.{Corrections}
use Rattle.node.specs.declared.Nodes.{Nodes}
use Rattle.moon.specs.declared.phases.Phases.{Phases}
use Rattle.std.specs.Prelude.{Result, Ok, Err, ◌&&◌, ℕ, ltb}
use Rattle.reckoning.specs.Search.{pick}
use Rattle.refusal.specs.declared.Refusal.{Refusal}
use Rattle.lunisolar.specs.Calendars.{year_at, lunation_at}
use Rattle.units.specs.Xinghe.{xinghe}
use Rattle.moon.specs.Phases.{phases_of}
use Rattle.node.specs.Nodes.{nodes_of}
use Rattle.anomaly.specs.Corrections.{corrections_of}
use Rattle.sun.specs.Points.{is_cut, point_of}

-- of the month at place p of year n: refused under 1, then under 2, as its row is
unfoldable pub phases_for : Result ℕ Refusal → Result Phases Refusal
phases_for (Ok m) = Ok (phases_of m)
phases_for (Err e) = Err e

abbrev pub phases_at : ℕ → ℕ → Result Phases Refusal
phases_at n p = phases_for (lunation_at xinghe n p)

unfoldable pub nodes_for : Result ℕ Refusal → Result Nodes Refusal
nodes_for (Ok m) = Ok (nodes_of m)
nodes_for (Err e) = Err e

abbrev pub nodes_at : ℕ → ℕ → Result Nodes Refusal
nodes_at n p = nodes_for (lunation_at xinghe n p)

unfoldable pub corrections_for : Result ℕ Refusal → Result Corrections Refusal
corrections_for (Ok m) = Ok (corrections_of m)
corrections_for (Err e) = Err e

abbrev pub corrections_at : ℕ → ℕ → Result Corrections Refusal
corrections_at n p = corrections_for (lunation_at xinghe n p)

-- point i of cut c of the year with y years past: refused under 8 where the cut is not 24, 60 or 72, or the point not below it
unfoldable pub point_in : ℕ → ℕ → ℕ → Result Point Refusal
point_in y c i = pick (is_cut c && ltb i c) (Ok (point_of y c i)) (Err Refusal.Cut)

-- of year n as it is written: refused under 1 first
unfoldable pub point_for : Result ℕ Refusal → ℕ → ℕ → Result Point Refusal
point_for (Ok y) c i = point_in y c i
point_for (Err e) c i = Err e

abbrev pub cut_point : ℕ → ℕ → ℕ → Result Point Refusal
cut_point n c i = point_for (year_at xinghe n) c i
