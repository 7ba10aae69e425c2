use Rattle.task_run.proofs.AcceptedPrograms.{next_has, parted, results_of_own_runs, told}
use Rattle.task_run.proofs.laws.tasks_of_accepted_programs_miss_no_place.Goals as goal

pub returns : goal.returns
returns c = record { next = next_has; parted = parted; own = results_of_own_runs; told = told }
