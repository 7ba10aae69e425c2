use Rattle.warnings.proofs.Stopping.{stopped_after}
use Rattle.warnings.proofs.laws.stopping_statements_end_their_task.Goals as goal

pub returns : goal.returns
returns c = stopped_after
