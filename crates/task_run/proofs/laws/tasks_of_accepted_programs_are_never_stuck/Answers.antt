use Rattle.task_run.proofs.AcceptedPrograms.{settles_anywhere, ends_anywhere}
use Rattle.task_run.proofs.laws.tasks_of_accepted_programs_are_never_stuck.Goals as goal

pub returns-clause-settles : goal.returns-clause-settles
returns-clause-settles c = settles_anywhere

pub returns-clause-ends : goal.returns-clause-ends
returns-clause-ends c = ends_anywhere
