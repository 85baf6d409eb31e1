use Rattle.reckoning.specs.Search.{between}
use Rattle.planets.specs.Jobs.{stages_at}
use Rattle.planets.proofs.Cases.{outside}
use Rattle.planets.proofs.table.rows_of.Goals as goal

pub returns-in-1 : goal.returns-in-1
unfolding stages_at between
returns-in-1 c = rw (c.in-1.is, c.jupiter_rows.ensures)

pub returns-in-2 : goal.returns-in-2
unfolding stages_at between
returns-in-2 c = rw (c.in-2.is, c.mars_rows.ensures)

pub returns-in-3 : goal.returns-in-3
unfolding stages_at between
returns-in-3 c = rw (c.in-3.is, c.saturn_rows.ensures)

pub returns-in-4 : goal.returns-in-4
unfolding stages_at between
returns-in-4 c = rw (c.in-4.is, c.venus_rows.ensures)

pub returns-in-5 : goal.returns-in-5
unfolding stages_at between
returns-in-5 c = rw (c.in-5.is, c.mercury_rows.ensures)

pub returns-in_default : goal.returns-in_default
unfolding stages_at
returns-in_default c =
    let r = c.in_default.in_default-own.rest in
    rw (outside c.args.planet r.0.0.0.0.1 r.0.0.0.1 r.0.0.1 r.0.1 r.1)
