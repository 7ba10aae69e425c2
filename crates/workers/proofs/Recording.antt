-- All threads can share a log under its lock.
use Rattle.std.proofs.Crossing.{crosses}
use Rattle.std.proofs.MapsCrossing as maps
use Rattle.std.proofs.MapsCrossingOver as sets
use denote.Param.Send.{IsSend, IsSync, sendable, view_send}
use denote.Param.SendFields.{declared_send, declared_sync, variants_send, as_row_send, as_row_sync}
use denote.RattleType.{RattleType}
use denote.Ref.{NamedLft}
use Rattle.std.specs.contracts.marker.PhantomData as PhantomData
use Rattle.std.specs.contracts.result.Result as Result
use Rattle.std.specs.contracts.sync.Mutex as Mutex
use Rattle.std.proofs.marker.PhantomData.TheSendSync as OfPhantom
use Rattle.std.proofs.result.Result.TheSendSync as OfResult
use Rattle.std.proofs.sync.Mutex.TheSendSync as OfMutex
use Rattle.task_run.proofs.result.TaskResult.TheSendSync as OfTaskResult
use Rattle.finish_scope.specs.declared.running.Running.{Ghosts}
use Rattle.finish_scope.proofs.Crossing.{carried, job_send, paused_send, run_send, start_send}
use Rattle.events.proofs.event.Event.TheSendSync as OfEvent
use Rattle.events.proofs.worker_id.WorkerId.TheSendSync as OfWorkerId
use Rattle.types.proofs.scope_id.ScopeId.TheSendSync as OfScopeId
use Rattle.event_worlds.specs.contracts.doing.TaskProgress as TaskProgress
use Rattle.event_worlds.specs.contracts.error.EventError as EventError
use Rattle.event_worlds.specs.contracts.job.WeightedJob as WeightedJob
use Rattle.event_worlds.specs.contracts.task.WorldTask as WorldTask
use Rattle.event_worlds.specs.contracts.world.World as World
use Rattle.event_worlds.proofs.error.EventError.TheSendSync as OfError
use Rattle.event_worlds.proofs.scope.WorldScope.TheSendSync as OfScope
use Rattle.event_worlds.proofs.task.WorldStake.TheSendSync as OfStake
use Rattle.event_worlds.proofs.task.Whereabouts.TheSendSync as OfWhereabouts
use Rattle.trace.specs.contracts.log.Log as Log
use Rattle.trace.specs.contracts.log.Log.TheInside as InLog
use Rattle.workers.specs.contracts.log_guard.OwnLog as OwnLog
use Rattle.workers.specs.contracts.log_guard.OwnLog.TheInside as InOwnLog
use Rattle.workers.specs.contracts.locked_log.LockedLog as LockedLog

doing_send : (κ : NamedLft) → IsSend (TaskProgress.the_row κ)
doing_send κ =
    variants_send (TaskProgress.enum κ) (
      (start_send κ, tt),
      (
        (run_send κ, tt),
        (
          (run_send κ, tt),
          (
            (run_send κ, (start_send κ, tt)),
            ((run_send κ, tt), ((paused_send κ, (OfTaskResult.the_send, tt)), ((OfTaskResult.the_send, tt), tt))),
          ),
        ),
      ),
    )

weighted_job_send : (κ : NamedLft) → IsSend (WeightedJob.the_row κ)
weighted_job_send κ = declared_send (WeightedJob.the_type κ) (job_send κ, (search sendable, tt))

task_send : (κ : NamedLft) → IsSend (WorldTask.the_row κ)
task_send κ =
    declared_send (WorldTask.the_type κ) (
      doing_send κ,
      (
        search sendable,
        (
          search (sendable, crosses, OfStake.the_send) depth 60 fits 50000,
          (OfWhereabouts.the_send, tt),
        ),
      ),
    )

world_send : (κ : NamedLft) → IsSend (World.the_row κ)
world_send κ =
    declared_send (World.the_type κ) (
      weighted_job_send κ,
      (
        search (sendable, crosses, maps.crosses, carried, task_send) depth 60 fits 50000,
        (
          search (sendable, crosses, maps.crosses, OfScopeId.the_send, OfScope.the_send) depth 60 fits 50000,
          (
            search (sendable, crosses, sets.crosses, OfWorkerId.the_send) depth 60 fits 50000,
            (search (sendable, crosses, carried) depth 60 fits 50000, tt),
          ),
        ),
      ),
    )

pub log_send : (κ : NamedLft) → IsSend (Log.the_row κ)
log_send κ =
    view_send (InLog.the_row κ) _ _ _ _
    (declared_send (InLog.the_type κ) (
      world_send κ,
      (search (sendable, crosses, OfEvent.the_send) depth 60 fits 50000, tt),
    ))

module _ (κ : NamedLft) (J : RattleType) (gh : Ghosts J.Denot) where
  own_log_send : IsSend (OwnLog.the_row κ J gh)
  own_log_send =
      view_send (InOwnLog.the_row κ J gh) _ _ _ _
      (declared_send (InOwnLog.the_type κ J gh) (
        log_send κ,
        (as_row_send (PhantomData.the_field J) (OfPhantom.the_field_send J), tt),
      ))

  kept_send : IsSend (Result.the_row (OwnLog.the_row κ J gh) EventError.the_row)
  kept_send = OfResult.the_send (OwnLog.the_row κ J gh) EventError.the_row own_log_send OfError.the_send

  pub locked_log_sync : IsSync (LockedLog.the_row κ J gh)
  locked_log_sync =
      declared_sync (LockedLog.the_type κ J gh) (
        as_row_sync (Mutex.the_field (Result.the_row (OwnLog.the_row κ J gh) EventError.the_row))
            (OfMutex.the_sync (Result.the_row (OwnLog.the_row κ J gh) EventError.the_row) kept_send),
        tt,
      )
