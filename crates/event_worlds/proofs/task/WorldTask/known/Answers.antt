use Rattle.event_worlds.proofs.LookingAhead.{some_doing}
use Rattle.event_worlds.proofs.task.WorldTask.known.Goals as goal

pub known-requires-clause-task : goal.known-requires-clause-task
known-requires-clause-task c =
    let t = c.requires.task in
    some_doing c.args.job c.args.self t.0 t.1
