use Rattle.step_trees.proofs.LeavesApart.{no_race}
use Rattle.step_trees.proofs.laws.leaves_do_not_race.Goals as goal

pub returns : goal.returns
returns c = no_race
