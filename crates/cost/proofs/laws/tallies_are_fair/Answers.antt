use Rattle.cost.proofs.Fair.{tally_is_fair}
use Rattle.cost.proofs.laws.tallies_are_fair.Goals as goal

pub returns : goal.returns
returns c = tally_is_fair
