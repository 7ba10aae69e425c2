-- Logs: the events of a run so far, and the world that they lead to.
use Rattle.std.specs.Prelude.{ℕ, ◌≡◌, List, Some, true}
use Rattle.std.specs.Borrow.{Bor}
use Rattle.std.specs.Global.{Global}
use Rattle.types.specs.Outcome.{Outcome}
use Rattle.types.specs.declared.budget.Budget.{Budget}
use Rattle.types.specs.declared.input.Input.{Input}
use Rattle.race_checker.specs.declared.accepted.Accepted.{Accepted}
use Rattle.task_run.specs.Jobs.{budget_of, program_of}
use Rattle.event_worlds.specs.Jobs.{IsWeightedJob}
use Rattle.event_worlds.specs.Replay.{Legal}
use Rattle.event_worlds.specs.Replaying.{IsReplayed, comes, event}
use Rattle.event_worlds.specs.Shown.{Refuses}
use Rattle.event_worlds.specs.World.{World as TheWorld}
use Rattle.event_worlds.specs.Worlds.{outcome_of}
use Rattle.event_worlds.specs.declared.error.EventError.{EventError}
use Rattle.events.specs.declared.event.Event.{Event}
use Rattle.trace_text.specs.Spelled.{fits}
use Rattle.trace_text.specs.declared.format.Format.TheVariants.{Two}
use Rattle.event_worlds.specs.declared.job.WeightedJob.{WeightedJob}
use Rattle.event_worlds.specs.declared.world.World.{World}

-- the job of a run with these arguments
abbrev pub job_of : Global → Bor Accepted → Bor Input → Budget → (w0 : ℕ) → WeightedJob
job_of alloc accepted input budget w0 = record {
  job = record { alloc = alloc; accepted = accepted; input = input; budget = budget };
  w0 = w0;
}

-- what a log shows
pub record Recorded : Type 0 where
  pub world : World
  pub events : List Event

-- the log is clean: its events are legal in order from the start of its world's job, its world is the one
-- that they lead to, and a trace of format 2 can express them
pub record IsClean (l : Recorded) : Type 0 where
  pub job : IsWeightedJob l.world.job
  pub replayed : IsReplayed l.world.job l.events l.world
  pub fits : fits Two l.events ≡ true

-- an error leaves the log as it was; if it calls the event illegal, the event was illegal
pub record Leaves (e : Event) (old new : Recorded) (error : EventError) : Type 0 where
  pub events : new.events ≡ old.events
  pub world : Refuses (event e) old.world new.world error

-- the events are legal from the start of the log's job, and lead to a world with this outcome: therefore
-- its root's scope has passed
pub record LeadsToOutcome (l : Recorded) (told : Outcome) : Type 0 where
  pub world : TheWorld
  pub legal : comes l.world.job l.events ≡ Legal world
  pub is_told : outcome_of (program_of l.world.job.job) l.world.job.w0
      (budget_of l.world.job.job) world ≡ Some told
