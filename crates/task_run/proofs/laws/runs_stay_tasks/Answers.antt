use Rattle.task_run.specs.Reached.{root_begins}
use Rattle.task_run.proofs.BelongingTasks.{can_turn}
use Rattle.task_run.proofs.RunsGoOn.{begins, goes_behind, stays}
use Rattle.task_run.proofs.laws.runs_stay_tasks.Goals as goal

pub returns-clause-next : goal.returns-clause-next
returns-clause-next c = can_turn

pub returns-clause-stays : goal.returns-clause-stays
returns-clause-stays c = stays

pub returns-clause-root : goal.returns-clause-root
returns-clause-root c = λ p input b. root_begins

pub returns-clause-begins : goal.returns-clause-begins
returns-clause-begins c = begins

pub returns-clause-behind : goal.returns-clause-behind
returns-clause-behind c = goes_behind
