-- Demand 3 of any calendar, once over its constants.
-- Assumes nothing.
use Rattle.lunisolar.specs.declared.Constants.{Constants}
use Rattle.walking.proofs.Demand.{Demand, demand}
use Rattle.mean_calendar.specs.Carries.{months_of}
use Rattle.mean_calendar.proofs.Lawful.{lawful}

-- WALKING AND DIRECT WORKING ARE ONE THING: for every month and every list of counts
pub demand_3 : (k : Constants) → Demand (months_of k)
demand_3 k = demand (months_of k) (lawful k)
