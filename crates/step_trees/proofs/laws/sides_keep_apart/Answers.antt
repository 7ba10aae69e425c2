use Rattle.step_trees.proofs.ReachedTrees.{sides_apart}
use Rattle.step_trees.proofs.laws.sides_keep_apart.Goals as goal

pub returns : goal.returns
returns c = sides_apart
