use Rattle.task_run.proofs.Stopping.{turn_stops, finish_stops}
use Rattle.task_run.proofs.laws.tasks_stop_over_the_budget.Goals as goal

pub returns-clause-turn : goal.returns-clause-turn
returns-clause-turn c = turn_stops

pub returns-clause-finish : goal.returns-clause-finish
returns-clause-finish c = finish_stops
