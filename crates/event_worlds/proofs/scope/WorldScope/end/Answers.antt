use Rattle.task_run.specs.Translation.{task_result}
use Rattle.event_worlds.proofs.Gathers.{counted}
use Rattle.event_worlds.proofs.scope.WorldScope.end.Goals as goal

pub returns-clause-ended : goal.returns-clause-ended
returns-clause-ended c = λ book h.
    counted c.keep.new.self book c.args.weight c.args.self.now.faults c.in-Some.faults (task_result c.args.made) h.faults c.in-Some.ensures.1
    (c.in_ok-keep.ensures.kept book h)
