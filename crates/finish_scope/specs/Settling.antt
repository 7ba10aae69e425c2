-- Why the results of a scope don't settle.
use Rattle.std.specs.Prelude.{◌≡◌, List, Option, Some, map}
use Rattle.task_run.specs.Lists.{Each}
use Rattle.task_run.specs.Translation.{task_result}
use Rattle.task_run.specs.declared.job.Job.{Job}
use Rattle.task_run.specs.declared.result.TaskResult.{TaskResult as Made}
use Rattle.gather.specs.Refusal.{IsCaseOf}
use Rattle.gather.specs.declared.error.GatherError.{GatherError}
use Rattle.gather.specs.declared.error.GatherError.TheVariants.{OutOfMemory as NoMemory}
use Rattle.weighted_task.specs.Ends.{IsParked}
use Rattle.weighted_task.specs.Tasks.{IsResultOf}
use Rattle.weighted_task.specs.declared.finish.Parked.{Parked}
use Rattle.finish_scope.specs.declared.causes.Unsettled.{Unsettled}
use Rattle.finish_scope.specs.declared.settling.SettleError.{SettleError}
use Rattle.finish_scope.specs.declared.settling.SettleError.TheVariants.{OutOfMemory, Inconsistent}

-- these results don't settle with that of their owner, by the error that gathering returned
abbrev pub AreUnsettled : (owner : Parked) → (results : List Made) → Unsettled → Type 0
AreUnsettled p rs u = IsCaseOf (task_result p.made) (map task_result rs) u.error

-- memory ran out, or these results don't settle with that of their owner
abbrev pub TellsUnsettled : (owner : Parked) → (results : List Made) → SettleError → Type 0
TellsUnsettled p rs OutOfMemory = Unit {0}
TellsUnsettled p rs (Inconsistent u) = AreUnsettled p rs u

-- an owner of the run was parked, and results of the run's tasks don't settle with its own
pub record DoesNotSettle (o : Option Job) (u : Unsettled) : Type 0 where
  pub owner : Parked
  pub job : o ≡ Some owner.job
  pub ends : IsParked owner
  pub results : List Made
  pub tasks : Each (IsResultOf owner.job) results
  pub own_case : AreUnsettled owner results u

-- the error of gathering is kept, unless memory ran out
abbrev pub IsUnsettledBy : GatherError → SettleError → Type 0
IsUnsettledBy e OutOfMemory = e ≡ NoMemory
IsUnsettledBy e (Inconsistent u) = u.error ≡ e
