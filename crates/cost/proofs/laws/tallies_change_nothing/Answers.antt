use Rattle.cost.proofs.Untallied.{untallied-tallied}
use Rattle.cost.proofs.laws.tallies_change_nothing.Goals as goal

pub returns : goal.returns
returns c = untallied-tallied
