-- A trace in format 2: each resume has its number of faults, and nothing else changes.
use Rattle.std.specs.Prelude.{◌≡◌, List, map, true}
use Rattle.task_run.specs.Jobs.{budget_of, lists_of, program_of}
use Rattle.event_worlds.specs.Numbering.{numbered}
use Rattle.event_worlds.specs.Replay.{Legal}
use Rattle.event_worlds.specs.Replaying.{comes, event}
use Rattle.event_worlds.specs.World.{World}
use Rattle.event_worlds.specs.declared.job.WeightedJob.{WeightedJob}
use Rattle.events.specs.declared.event.Event.{Event}
use Rattle.trace_text.specs.Spelled.{fits}
use Rattle.trace_text.specs.declared.format.Format.TheVariants.{Two}
use Rattle.trace_text.specs.declared.header.Header.{Header}

-- the events are legal, and these are the same with their numbers
pub record IsUpgraded (j : WeightedJob) (h : Header) (es : List Event) (to : Header) (told : List Event) : Type 0 where
  pub format : to.format ≡ Two
  pub budget : to.budget ≡ h.budget
  pub w0 : to.w0 ≡ h.w0
  pub workers : to.workers ≡ h.workers
  pub world : World
  pub legal : comes j es ≡ Legal world
  pub events : map event told ≡ numbered (program_of j.job) j.w0 (lists_of j.job) (budget_of j.job) (map event es)
  pub fits_so : fits Two told ≡ true
