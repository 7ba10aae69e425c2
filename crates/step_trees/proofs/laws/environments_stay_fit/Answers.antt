use Rattle.step_trees.proofs.LeavesApart.{leaf_fits, owner_keeps}
use Rattle.step_trees.proofs.laws.environments_stay_fit.Goals as goal

pub returns-clause-leaf : goal.returns-clause-leaf
returns-clause-leaf c = leaf_fits

pub returns-clause-owner : goal.returns-clause-owner
returns-clause-owner c = owner_keeps
