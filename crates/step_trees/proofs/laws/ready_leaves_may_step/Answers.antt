use Rattle.step_trees.proofs.Steps.{ready_steps, others_stay}
use Rattle.step_trees.proofs.laws.ready_leaves_may_step.Goals as goal

pub returns-clause-may : goal.returns-clause-may
returns-clause-may c = ready_steps

pub returns-clause-may_not : goal.returns-clause-may_not
returns-clause-may_not c = others_stay
