use Rattle.std.proofs.Common.{◌≡◌, ◌≤◌, ◌-◌, length}
use Rattle.event_worlds.specs.Walks.{IsWalk}
use Rattle.event_worlds.proofs.walk.random_walk.Given as goal

-- it is a walk of the job, with at most `most` events
abbrev pub invariant-rounds : goal.invariant-rounds
invariant-rounds l = record {
  walk : IsWalk l.walk;
  job : l.walk.world.job ≡ l.job;
  few : length l.walk.events.items ≤ l.most;
}

abbrev pub decreases-rounds : goal.decreases-rounds
decreases-rounds l = l.most - length l.walk.events.items
