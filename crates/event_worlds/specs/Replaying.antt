-- Events in Rust, and what lists of them lead to.
use Rattle.std.specs.Prelude.{◌≡◌, List, map}
pub use Rattle.events.specs.Events.{event}
use Rattle.task_run.specs.Jobs.{program_of, lists_of, budget_of}
use Rattle.event_worlds.specs.Replay.{Replayed, Legal, IllegalAt}
use Rattle.event_worlds.specs.Shown.{Shows}
use Rattle.event_worlds.specs.World.{World}
use Rattle.event_worlds.specs.Worlds.{replayed}
use Rattle.event_worlds.specs.declared.error.ReplayError.{ReplayError}
use Rattle.event_worlds.specs.declared.error.ReplayError.TheVariants.{IllegalAt as rIllegalAt, NoMemory}
use Rattle.events.specs.declared.event.Event.{Event as rEvent}
use Rattle.event_worlds.specs.declared.job.WeightedJob.{WeightedJob}
use Rattle.event_worlds.specs.declared.world.World.{World as rWorld}

module _ (j : WeightedJob) (es : List rEvent) where
  -- the definitions' replay of a list
  abbrev pub comes : Replayed
  comes = replayed (program_of j.job) j.w0 (lists_of j.job) (budget_of j.job) (map event es)

  -- the replay leads to a world, and the tables represent it
  pub record IsReplayed (r : rWorld) : Type 0 where
    pub world : World
    pub legal : comes ≡ Legal world
    pub shows : Shows r world
    pub job : r.job ≡ j

  -- the replay stops at this event, the first that isn't legal; or memory ran out
  abbrev pub IsRefused : ReplayError → Type 0
  IsRefused (rIllegalAt n) = comes ≡ IllegalAt n
  IsRefused NoMemory = Unit {0}
