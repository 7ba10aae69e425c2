-- When a resume may have a number of faults, as the tables in Rust have it.
use Rattle.std.specs.Prelude.{ℕ, ◌≡◌, ◌<◌, ◌^◌, List, Option, Some, None, SomeIff}
use Rattle.effects.specs.Rounds.{needs_of}
use Rattle.task_run.specs.Jobs.{program_of, budget_of}
use Rattle.event_worlds.specs.Events.{Event, Resume}
use Rattle.event_worlds.specs.Numbering.{with_number}
use Rattle.event_worlds.specs.Replay.{gathered}
use Rattle.event_worlds.specs.Shown.{Shows, next_world}
use Rattle.event_worlds.specs.World.{World}
use Rattle.event_worlds.specs.declared.world.World.{World as rWorld}

module _ (r : rWorld) (path : List ℕ) where
  -- the number of faults that the task's finish has gathered
  abbrev pub gathered_by : World → Option ℕ
  gathered_by =
      gathered (program_of r.job.job) (needs_of (program_of r.job.job)) (budget_of r.job.job).steps r.job.w0 path

  -- a number is there if it is a u64
  pub record HasGathered (w : World) (told : Option ℕ) : Type 0 where
    pub number : ℕ
    pub is : gathered_by w ≡ Some number
    pub fits : SomeIff told (number < 2 ^ 64) number

  -- in each world that is represented, a resume with this number is what one without a number is
  abbrev pub MayTell : Option ℕ → Type 0
  MayTell faults = (worker : ℕ) (w : World) → Shows r w
      → next_world r.job (Resume worker path faults) w ≡ next_world r.job (Resume worker path None) w

  -- in each world that is represented, a resume with this number isn't legal
  abbrev pub MayNotTell : Option ℕ → Type 0
  MayNotTell faults = (worker : ℕ) (w : World) → Shows r w
      → next_world r.job (Resume worker path faults) w ≡ None

-- in each world that is represented in which an event is legal, this is the event with its number
abbrev pub IsNumbered : rWorld → (e told : Event) → Type 0
IsNumbered r e told = (w to : World) → Shows r w → next_world r.job e w ≡ Some to
    → told ≡ with_number (program_of r.job.job) (needs_of (program_of r.job.job)) (budget_of r.job.job).steps r.job.w0 e w
