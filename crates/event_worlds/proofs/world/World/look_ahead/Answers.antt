use Rattle.std.proofs.Common.{sym}
use Rattle.event_worlds.specs.declared.world.World.{World as rWorld}
use Rattle.event_worlds.proofs.LookingAhead.{stays_back}
use Rattle.event_worlds.proofs.Tables.{task_there}
use Rattle.event_worlds.proofs.world.World.look_ahead.Goals as goal

pub known-requires-clause-task : goal.known-requires-clause-task
known-requires-clause-task c =
    task_there c.args.self.now.job.job c.in-Some.task _ _ (c.requires.shows.tasks c.args.path.now) (sym c.in-Some.ensures.value)

pub returns-clause-stays : goal.returns-clause-stays
returns-clause-stays c =
    let r : rWorld = c.args.self.now in
    stays_back r c.args.path.now c.in-Some.name c.in-Some.task c.in_ok-task.task (record r { tasks = c.remove_entry.new.self })
    (record r { tasks = c.insert.new.self }) (sym c.in-Some.ensures.value) c.in-Some.ensures.same_key c.in_ok-task.ensures.stays
    c.remove_entry.ensures.updates.0 c.in_ok-insert.ensures.updates.0
