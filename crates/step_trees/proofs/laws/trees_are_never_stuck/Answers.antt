use Rattle.step_trees.proofs.NoDeadlock.{deadlock_free}
use Rattle.step_trees.proofs.ChosenRuns.{open_has_leaf}
use Rattle.step_trees.proofs.laws.trees_are_never_stuck.Goals as goal

pub returns-clause-ready : goal.returns-clause-ready
returns-clause-ready c = deadlock_free

pub returns-clause-open : goal.returns-clause-open
returns-clause-open c = open_has_leaf
