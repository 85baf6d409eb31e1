use Rattle.reckoning.specs.Means.{new_moon}
use borrow.Author.Rules.{rules}
use Rattle.lunisolar.proofs.means.new_moon_day.Goals as goal

pub returns : goal.returns
unfolding new_moon
returns c = search rules
