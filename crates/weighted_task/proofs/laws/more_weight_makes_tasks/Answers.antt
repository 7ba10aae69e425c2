use Rattle.weighted_task.proofs.Turning.{parts_tasks}
use Rattle.weighted_task.proofs.laws.more_weight_makes_tasks.Goals as goal

pub returns : goal.returns
returns c = λ b units s t parts wants. parts_tasks b units s t parts wants.body wants.may wants.label
