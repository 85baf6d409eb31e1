use native.Mathlib.Omega.{arith}
use Rattle.reckoning.proofs.Moons.{moon_high}
use Rattle.lunisolar.specs.Calendars.{means_of}
use Rattle.lunisolar.proofs.rule.term_reaches.Goals as goal

pub term_from-requires : goal.term_from-requires
term_from-requires c = (c.requires.0, omega (arith, c.new_moon_day.ensures, c.requires.1, moon_high (means_of c.args.k.constants) c.args.k.sound.moon c.args.m))
