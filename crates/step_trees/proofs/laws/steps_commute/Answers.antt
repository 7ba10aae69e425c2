use Rattle.step_trees.proofs.ReachedTrees.{order_open}
use Rattle.step_trees.proofs.laws.steps_commute.Goals as goal

pub returns : goal.returns
returns c = order_open
