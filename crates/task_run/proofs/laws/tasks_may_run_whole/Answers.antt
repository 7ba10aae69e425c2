use Rattle.task_run.proofs.WholeTasks.{is_own, made_in_place, settles_with_some, whole_in_place}
use Rattle.task_run.proofs.laws.tasks_may_run_whole.Goals as goal

pub returns-clause-whole : goal.returns-clause-whole
returns-clause-whole c p sound accepted input b fits s may running = whole_in_place p sound accepted input b fits s may running

pub returns-clause-plain : goal.returns-clause-plain
returns-clause-plain c = is_own

pub returns-clause-made : goal.returns-clause-made
returns-clause-made c p sound accepted input b fits s may kept = made_in_place p sound accepted input b fits s may kept

pub returns-clause-settles : goal.returns-clause-settles
returns-clause-settles c p sound accepted input b fits s may runs_whole rs order =
    settles_with_some p sound accepted input b fits s may runs_whole rs order
