use Rattle.step_trees.proofs.ReachedTrees.{ends_alike_at, ends_as_one}
use Rattle.step_trees.proofs.laws.runs_end_as_one_thread.Goals as goal

pub returns-clause-alike : goal.returns-clause-alike
returns-clause-alike c = ends_alike_at

pub returns-clause-one_thread : goal.returns-clause-one_thread
returns-clause-one_thread c = ends_as_one
