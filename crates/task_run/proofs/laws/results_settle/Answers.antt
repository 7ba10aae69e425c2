use Rattle.task_run.proofs.SettledResults.{made_sound}
use Rattle.task_run.proofs.TasksEnd.{all_settle}
use Rattle.task_run.proofs.ExactResults.{own_exact}
use Rattle.task_run.proofs.laws.results_settle.Goals as goal

pub returns-clause-complete : goal.returns-clause-complete
returns-clause-complete c p needs fresh root s scoped calm provides is may rs all =
    all_settle p needs scoped calm provides fresh root s is may rs all

pub returns-clause-sound : goal.returns-clause-sound
returns-clause-sound c p needs fresh root s r rs x is from all e = made_sound p needs fresh root s is r from rs all x e

pub returns-clause-exact : goal.returns-clause-exact
returns-clause-exact c p needs fresh root s rs x is all e = own_exact p needs fresh root s is rs all x e
