use Rattle.task_run.proofs.TurnsLeft.{begins_within, goes_on_within, leaves_fewer}
use Rattle.task_run.proofs.laws.runs_end.Goals as goal

pub returns-clause-turns : goal.returns-clause-turns
returns-clause-turns c = λ needs r t fs x. leaves_fewer needs r t fs x

pub returns-clause-begins : goal.returns-clause-begins
returns-clause-begins c = begins_within

pub returns-clause-goes_on : goal.returns-clause-goes_on
returns-clause-goes_on c = goes_on_within
