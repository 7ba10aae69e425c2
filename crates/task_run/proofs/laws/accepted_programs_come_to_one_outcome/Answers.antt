use Rattle.std.proofs.Common.{sym}
use Rattle.task_run.proofs.AcceptedPrograms.{settled, apart, complete, root_told}
use Rattle.task_run.proofs.laws.accepted_programs_come_to_one_outcome.Goals as goal

pub returns : goal.returns
returns c = record { apart = λ p sound accepted input b. sym (apart p sound accepted input b); told = settled; settles = complete; root = root_told }
