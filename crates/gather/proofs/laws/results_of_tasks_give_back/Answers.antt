use Rattle.gather.proofs.TasksGiveBack.{give_back}
use Rattle.gather.proofs.laws.results_of_tasks_give_back.Goals as goal

pub returns : goal.returns
returns c = give_back
