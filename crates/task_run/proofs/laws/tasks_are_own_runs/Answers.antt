use Rattle.task_run.proofs.TaskRuns.{begins_task, turns_task, lists_given, leaves_task, of_own_run, own_if_given}
use Rattle.task_run.proofs.laws.tasks_are_own_runs.Goals as goal

pub returns : goal.returns
returns c = record { begins = begins_task; turns = turns_task; lists = lists_given; leaves = leaves_task; ends = of_own_run; tells = own_if_given }
