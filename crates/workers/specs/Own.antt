-- What belongs to the job of a run.
use Rattle.std.specs.Prelude.{◌≡◌, List, Option, Some}
use Rattle.types.specs.Translation.{outcome}
use Rattle.task_run.specs.Lists.{Each}
use Rattle.plain_code.specs.Pieces.{IsCodeOfProgram}
use Rattle.plain_code.specs.declared.pieces.ProgramCode.{ProgramCode}
use Rattle.task_run.specs.declared.result.TaskResult.{TaskResult as RunResult}
use Rattle.task_run.specs.Jobs.{IsJob, outcome_of, program_of}
use Rattle.task_run.specs.declared.job.Job.{Job}
use Rattle.weighted_task.specs.Ends.{IsParked}
use Rattle.weighted_task.specs.Tasks.{IsTask, IsChild, IsResultOf}
use Rattle.weighted_task.specs.Turns.{IsWanting}
use Rattle.weighted_task.specs.declared.finish.Ending.{Ending}
use Rattle.weighted_task.specs.declared.finish.Parked.{Parked}
use Rattle.weighted_task.specs.declared.task.Body.{Body}
use Rattle.weighted_task.specs.declared.task.Child.{Child}
use Rattle.weighted_task.specs.declared.task.Task.{Task}
use Rattle.weighted_task.specs.declared.turn.WeightedResult.{WeightedResult}
use Rattle.weighted_task.specs.declared.turn.WeightedTurn.{WeightedTurn}
use Rattle.weighted_task.specs.declared.turn.WeightedTurn.TheVariants.{Going, Spawns, WantsWeight}
use Rattle.weighted_task.specs.declared.turn.WeightedTurn.TheVariants.{EntersFinish}
use Rattle.weighted_task.specs.declared.turn.WeightedTurn.TheVariants.{EndsFinish, Ended, Over}
use Rattle.weighted_task.specs.declared.turn.Wanting.{Wanting}
use Rattle.weighted_task.specs.declared.turn.WholeChild.{WholeChild}
use Rattle.weighted_task.specs.declared.turn.WholeChild.TheVariants.{Made, Cut, Again}
use Rattle.weighted_task.specs.Tasks.{IsBody}
use Rattle.tickets.specs.Seats.{WordId}
use Rattle.tickets.specs.declared.drawing.Stub.{Stub}
use Rattle.workers.specs.Words.{IsOwnStub}
use Rattle.workers.specs.declared.open_scopes.Next.{Next}
use Rattle.workers.specs.declared.open_scopes.Next.TheVariants.{Goes, Idle, Told}
use Rattle.workers.specs.declared.open_scopes.AfterTurn.{AfterTurn}
use Rattle.workers.specs.declared.open_scopes.AfterTurn.TheVariants.{Follows, Spawned}

-- what a worker continues with is of this job, and what it reports is the one-thread outcome
abbrev pub IsNext : Job → Next → Type 0
IsNext j (Goes t) = (t.body.value.job ≡ j) × IsTask t
IsNext j Idle = Unit {0}
IsNext j (Told x) = outcome x ≡ outcome_of j

module _ (o : Option Job) where
  -- it is right
  abbrev pub HasJob : Type 0
  HasJob = (j : Job) → o ≡ Some j → IsJob j

  -- the flat code is that of its program
  abbrev pub HasCode : ProgramCode → Type 0
  HasCode code = (j : Job) → o ≡ Some j → IsCodeOfProgram (program_of j) code

  -- a spawned task, and one between two turns
  pub record IsOwnChild (c : Child) : Type 0 where
    pub job : o ≡ Some c.job
    pub child : IsChild c

  pub record IsOwnTask (t : Task) : Type 0 where
    pub job : o ≡ Some t.body.value.job
    pub task : IsTask t

  -- a task that waits for a worker has the stub of a ticket that was drawn from the word of the run
  pub record IsReady (w : Option WordId) (c : Child) (s : Stub) : Type 0 where
    pub own : IsOwnChild c
    pub drawn : IsOwnStub w s

  pub record IsOwnBody (b : Body) : Type 0 where
    pub job : o ≡ Some b.job
    pub body : IsBody b

  pub record IsOwnWanting (w : Wanting) : Type 0 where
    pub job : o ≡ Some w.body.value.job
    pub wanting : IsWanting w.body.value w.start.value

  pub record IsOwnEnding (e : Ending) : Type 0 where
    pub job : o ≡ Some e.parked.value.job
    pub ends : IsParked e.parked.value

  pub record IsOwnEnded (r : WeightedResult) : Type 0 where
    pub job : o ≡ Some r.job
    pub result : IsResultOf r.job r.made

  -- the result of a turn
  abbrev pub IsOwnTurn : WeightedTurn → Type 0
  IsOwnTurn (Going t) = IsOwnTask t
  IsOwnTurn (Spawns t c) = IsOwnTask t × IsOwnChild c
  IsOwnTurn (WantsWeight w) = IsOwnWanting w
  IsOwnTurn (EntersFinish e) = IsOwnBody e.body.value
  IsOwnTurn (EndsFinish e) = IsOwnEnding e
  IsOwnTurn (Ended r) = IsOwnEnded r
  IsOwnTurn (Over t) = IsOwnTask t

  -- what a whole run of a spawned task comes to
  abbrev pub IsOwnWhole : WholeChild → Type 0
  IsOwnWhole (Made r begun) = IsOwnEnded r
  IsOwnWhole (Cut begun) = Unit {0}
  IsOwnWhole (Again c) = IsOwnChild c

  -- an owner of it that passes, with the results of its scope
  pub record IsOwnLeaving (p : Parked) (rs : List RunResult) : Type 0 where
    pub job : o ≡ Some p.job
    pub ends : IsParked p
    pub results : Each (IsResultOf p.job) rs

  -- what a worker continues with, or reports
  abbrev pub IsOwnNext : Next → Type 0
  IsOwnNext (Goes t) = IsOwnTask t
  IsOwnNext Idle = Unit {0}
  IsOwnNext (Told x) = (j : Job) → o ≡ Some j → outcome x ≡ outcome_of j

  -- what a turn led to
  abbrev pub IsOwnStep : AfterTurn → Type 0
  IsOwnStep (Follows n) = IsOwnNext n
  IsOwnStep (Spawned t c) = IsOwnTask t × IsOwnChild c
