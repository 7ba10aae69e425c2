use Rattle.std.proofs.Common.{◌≡◌, drop, map}
use Rattle.effects.specs.Rounds.{needs_of}
use Rattle.task_run.specs.Jobs.{program_of, budget_of}
use Rattle.event_worlds.specs.Jobs.{IsWeightedJob}
use Rattle.event_worlds.specs.Replay.{replay_from}
use Rattle.event_worlds.specs.Replaying.{comes, event}
use Rattle.event_worlds.specs.Shown.{Shows}
use Rattle.event_worlds.specs.World.{World}
use Rattle.event_worlds.proofs.replay.replay.Given as goal

-- the tables represent a world, from which the rest of the list leads to the same result
abbrev pub invariant-events : goal.invariant-events
invariant-events l = record {
  ok : IsWeightedJob l.job;
  job : l.world.job ≡ l.job;
  at : World;
  shows : Shows l.world at;
  same : comes l.job l.events
      ≡ replay_from (program_of l.job.job) (needs_of (program_of l.job.job)) (budget_of l.job.job).steps l.job.w0 l.number
      (map event (drop l.number l.events)) at;
}
