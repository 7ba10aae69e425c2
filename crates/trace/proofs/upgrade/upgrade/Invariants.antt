use Rattle.std.proofs.Common.{◌≡◌, ◌++◌, List, drop, map}
use Rattle.std.specs.Prelude.{true}
use Rattle.task_run.specs.Jobs.{budget_of, lists_of, program_of}
use Rattle.events.specs.declared.event.Event.{Event}
use Rattle.event_worlds.specs.Events.{Event as AnEvent}
use Rattle.event_worlds.specs.Jobs.{IsWeightedJob}
use Rattle.event_worlds.specs.Numbering.{numbered}
use Rattle.event_worlds.specs.Replaying.{comes, event}
use Rattle.event_worlds.specs.Shown.{Shows}
use Rattle.event_worlds.specs.World.{World}
use Rattle.event_worlds.specs.declared.job.WeightedJob.{WeightedJob}
use Rattle.event_worlds.proofs.Replaying.{left_comes}
use Rattle.trace_text.specs.Spelled.{fits}
use Rattle.trace_text.specs.declared.format.Format.TheVariants.{Two}
use Rattle.trace.proofs.UpgradeLemmas.{from}
use Rattle.trace.proofs.upgrade.upgrade.Given as goal

-- all events of a job, with their numbers
abbrev all : WeightedJob → List Event → List AnEvent
all j es = numbered (program_of j.job) j.w0 (lists_of j.job) (budget_of j.job) (map event es)

-- the tables represent a world of the same job as at the start; the events so far have their numbers, and the
-- rest leads on from there
abbrev pub invariant-events : goal.invariant-events
invariant-events l = record {
  ok : IsWeightedJob l.initial.world.job;
  job : l.world.job ≡ l.initial.world.job;
  at : World;
  shows : Shows l.world at;
  same : comes l.initial.world.job l.events ≡ left_comes l.initial.world.job l.number (drop l.number l.events) at;
  told : map event l.told.items ++ from l.initial.world.job (map event (drop l.number l.events)) at
      ≡ all l.initial.world.job l.events;
  fits_so : fits Two l.told.items ≡ true;
}
