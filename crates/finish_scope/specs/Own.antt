-- What belongs to the job of a run.
use Rattle.std.specs.Prelude.{◌≡◌, List, Option, Some, None}
use Rattle.task_run.specs.Lists.{Each}
use Rattle.task_run.specs.declared.result.TaskResult.{TaskResult as Made}
use Rattle.task_run.specs.declared.job.Job.{Job}
use Rattle.weighted_task.specs.Ends.{IsParked}
use Rattle.weighted_task.specs.Tasks.{IsResultOf}
use Rattle.finish_scope.specs.declared.resting.Passing.{Passing}
use Rattle.finish_scope.specs.declared.resting.Resting.{Resting}

-- the results of a scope that passes are those of tasks of its owner's job
pub record CanPass (p : Passing) : Type 0 where
  pub ends : IsParked p.owner.parked.value
  pub results : Each (IsResultOf p.owner.parked.value.job) p.results.items

module _ (o : Option Job) where
  -- a result is that of a task of the run
  abbrev pub IsResultOfRun : Made → Type 0
  IsResultOfRun made = (j : Job) → o ≡ Some j → IsResultOf j made

  -- an owner is one of its tasks
  pub record IsOwnResting (r : Resting) : Type 0 where
    pub job : o ≡ Some r.parked.value.job
    pub ends : IsParked r.parked.value

  -- if one is parked, it is an owner of the run
  abbrev pub IsOwnOwner : Option Resting → Type 0
  IsOwnOwner None = Unit {0}
  IsOwnOwner (Some r) = IsOwnResting r

  -- all contents of a scope are of the run
  pub record IsOwnScope (came : List Made) (parked : Option Resting) : Type 0 where
    pub results : Each IsResultOfRun came
    pub owner : IsOwnOwner parked

  -- a scope of the run passes
  pub record IsOwnPassing (p : Passing) : Type 0 where
    pub job : o ≡ Some p.owner.parked.value.job
    pub can : CanPass p
