-- What a row takes from its new moon, as the program carries it on from month to month in a year. No row is defined by this.
-- Assumes nothing.
use Rattle.std.specs.Prelude.{ℕ, ◌<◌}
use Rattle.units.specs.Xinghe.{N, M, T}
use Rattle.moon.specs.NewMoons.{new_moon_of, monthly_addition}
use Rattle.node.specs.Passages.{passage_of, next_passage}
use Rattle.anomaly.specs.Steps.{into_anomaly, next_into}
use Rattle.calendar.specs.declared.elements.Elements.{Elements}

-- of the new moon of month m
abbrev pub elements_of : ℕ → Elements
elements_of m = record { moon = new_moon_of m; passage = passage_of m; into = into_anomaly m }

-- of the next one: the monthly addition, and P more since the node and in the round of the anomaly
abbrev pub next_elements : Elements → Elements
next_elements x = record { moon = monthly_addition x.moon; passage = next_passage x.passage; into = next_into x.into }

-- remainders of less than their divisors, and room for the sums
pub record ElementsBound (x : Elements) : Type 0 where
  pub day : x.moon.day < 4294967296
  pub remainder : x.moon.remainder.parts < N
  pub since : x.passage.since < M
  pub nodes : x.passage.nodes < 4294967296
  pub into : x.into < T
