use Rattle.task_run.proofs.ListedTurns.{turn_lists}
use Rattle.task_run.proofs.MeasuredResults.{ended_worth, measured_settles}
use Rattle.task_run.proofs.laws.results_add_up.Goals as goal

pub returns : goal.returns
returns c = record { lists = turn_lists; worth = ended_worth; settles = measured_settles }
