use Rattle.units.proofs.chapter.year_months.Goals as goal

pub months_near-requires : goal.months_near-requires
months_near-requires c = rw c.requires (c.near_leap.ensures.0, c.near_leap.ensures.1, c.near_leap.ensures.2)

pub returns : goal.returns
returns c = rw c.requires at c.months_near.ensures
