-- The log of a run.
use Rattle.std.specs.Prelude.{ℕ, ◌≡◌, Option, Some}
use Rattle.task_run.specs.Jobs.{outcome_of}
use Rattle.task_run.specs.declared.job.Job.{Job}
use Rattle.finish_scope.specs.declared.run_error.RunError.{RunError}
use Rattle.finish_scope.specs.declared.run_error.RunError.TheVariants.{OutOfMemory, Unlogged}
use Rattle.event_worlds.specs.declared.error.EventError.{EventError}
use Rattle.event_worlds.specs.declared.error.EventError.TheVariants.{Illegal, NoMemory}
use Rattle.event_worlds.specs.declared.job.WeightedJob.{WeightedJob}
use Rattle.trace.specs.Logs.{IsClean, LeadsToOutcome, Recorded}

-- the error of a run whose log rejects an event
abbrev pub of_log : EventError → RunError
of_log Illegal = Unlogged
of_log NoMemory = OutOfMemory

-- the job of a world
abbrev pub weighted : Job → (w0 : ℕ) → WeightedJob
weighted j w0 = record { job = j; w0 = w0 }

module _ (o : Option Job) (w0 : ℕ) where
  -- the world of a log has the job of the run
  pub record IsOwnLog (l : Recorded) : Type 0 where
    pub job : o ≡ Some l.world.job.job
    pub weight : w0 ≡ l.world.job.w0

  -- the log that is given back: it is clean, and its world has the outcome of the run
  pub record IsLogOfRun (l : Recorded) : Type 0 where
    pub own : IsOwnLog l
    pub clean : IsClean l
    pub told : LeadsToOutcome l (outcome_of l.world.job.job)
