use Rattle.task_run.proofs.TaskRuns.{begins_follow, turns_follow, leaves_follow}
use Rattle.task_run.proofs.laws.tasks_follow_their_receipts.Goals as goal

pub returns : goal.returns
returns c = record { begins = begins_follow; turns = turns_follow; leaves = leaves_follow }
