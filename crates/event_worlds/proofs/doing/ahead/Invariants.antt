use Rattle.task_run.specs.Left.{left_of}
use Rattle.event_worlds.proofs.Turning.{HasGone}
use Rattle.event_worlds.proofs.doing.ahead.Given as goal

abbrev pub invariant-turns : goal.invariant-turns
invariant-turns l = HasGone l.job l.initial.job l.initial.run l.run

abbrev pub decreases-turns : goal.decreases-turns
decreases-turns l = left_of l.run
