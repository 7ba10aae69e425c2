-- The parts of the workers can be sent to the threads, and all threads can share the shared state.
use Rattle.std.proofs.Crossing.{crosses, Vec-send, Vec-sync}
use denote.Param.Send.{IsSend, IsSync, sendable, view_send, view_sync}
use denote.Param.SendFields.{declared_send, declared_sync, as_row_send, as_row_sync}
use denote.RattleType.{RattleType}
use denote.Ref.{NamedLft}
use Rattle.finish_scope.specs.declared.running.Running.{Ghosts}
use Rattle.finish_scope.specs.contracts.inner.Inner as Inner
use Rattle.finish_scope.specs.contracts.scope_table.ScopeTable as ScopeTable
use Rattle.finish_scope.specs.contracts.resting.ScopePosition as ScopePosition
use Rattle.workers.specs.declared.gate.Gate.{Ghosts as GateGhosts}
use Rattle.workers.specs.contracts.code.OwnCode as OwnCode
use Rattle.workers.specs.contracts.code.OwnCode.TheInside as InOwnCode
use Rattle.workers.specs.contracts.main_loop.Shared as Shared
use Rattle.workers.specs.contracts.pool.SleepSlot as SleepSlot
use Rattle.workers.specs.contracts.pool.Pool as Pool
use Rattle.workers.specs.contracts.pool.Tasks as Tasks
use Rattle.workers.specs.contracts.worker.WorkerParts as WorkerParts
use Rattle.workers.specs.contracts.locked_log.LockedLog as LockedLog
use Rattle.workers.specs.contracts.open_scopes.OpenScopes as OpenScopes
use Rattle.workers.specs.contracts.ready.First as First
use Rattle.workers.specs.contracts.ready.First.TheInside as InFirst
use Rattle.workers.specs.contracts.ready.Ready as Ready
use Rattle.workers.specs.contracts.ready.Ready.TheInside as InReady
use Rattle.std.specs.contracts.alloc.Global as Heap
use Rattle.std.specs.contracts.impls.GlobalAllocator.TheImpl.{ghosts}
use Rattle.std.specs.contracts.marker.PhantomData as PhantomData
use Rattle.std.specs.contracts.option.Option as Option
use Rattle.std.specs.contracts.sync.Arc as Arc
use Rattle.std.specs.contracts.sync.Mutex as Mutex
use Rattle.std.specs.contracts.vec.Vec as Vec
use Rattle.worker_threads.specs.contracts.deque_ends.Deque as Deque
use Rattle.worker_threads.specs.contracts.deque_ends.Front as Front
use Rattle.worker_threads.specs.contracts.deque_ends.Thief as Thief
use Rattle.std.proofs.marker.PhantomData.TheSendSync as OfPhantom
use Rattle.std.proofs.option.Option.TheSendSync as OfOption
use Rattle.std.proofs.sync.Mutex.TheSendSync as OfMutex
use Rattle.worker_threads.proofs.deque_ends.Deque.TheSendSync as OfDeque
use Rattle.worker_threads.proofs.deque_ends.Front.TheSendSync as OfFront
use Rattle.worker_threads.proofs.deque_ends.Thief.TheSendSync as OfThief
use Rattle.finish_scope.proofs.resting.ScopePosition.TheSendSync as OfPlace
use Rattle.workers.proofs.pool.SleepSlot.TheSendSync as OfSleepSlot
use Rattle.workers.proofs.worker.WorkerState.TheSendSync as OfState
use Rattle.workers.proofs.settings.Settings.TheSendSync as OfSettings
use Rattle.tickets.proofs.drawing.Stub.TheSendSync as OfStub
use Rattle.tickets.proofs.word.Tickets.TheSendSync as OfTickets
use Rattle.finish_scope.proofs.Crossing.{job_sync, child_send, task_send}
use Rattle.finish_scope.proofs.Sending.{scope_send, table_send}
use Rattle.workers.proofs.Flats.{program_code_sync}
use Rattle.workers.proofs.Recording.{locked_log_sync}

module _ (κ : NamedLft) (J : RattleType) (gh : Ghosts J.Denot) where
  scope_field : IsSend (denote.Hole.as_row (Arc.the_field (Mutex.the_row (Inner.the_row κ J gh)) Heap.the_row ghosts))
  scope_field = as_row_send (Arc.the_field (Mutex.the_row (Inner.the_row κ J gh)) Heap.the_row ghosts) (scope_send κ J gh)

  ready_send : IsSend (Ready.the_row κ J gh)
  ready_send =
      view_send (InReady.the_row κ J gh) _ _ _ _
      (declared_send (InReady.the_type κ J gh) (
        child_send κ,
        (
          scope_field,
          (OfPlace.the_send, (search (sendable, crosses) depth 30 fits 5000, (OfStub.the_send, (search sendable, tt)))),
        ),
      ))

  open_scopes_send : IsSend (OpenScopes.the_row κ J gh)
  open_scopes_send =
      declared_send (OpenScopes.the_type κ J gh) (
        scope_field,
        (
          OfPlace.the_send,
          (as_row_send (Vec.the_field ScopePosition.the_row Heap.the_row ghosts) (Vec-send ScopePosition.the_row OfPlace.the_send), tt),
        ),
      )

  first_send : IsSend (First.the_row κ J gh)
  first_send = view_send (InFirst.the_row κ J gh) _ _ _ _ (declared_send (InFirst.the_type κ J gh) (task_send κ, (open_scopes_send, tt)))

  tasks_send : IsSend (Tasks.the_row κ J gh)
  tasks_send =
      declared_send (Tasks.the_type κ J gh) (
        as_row_send (Deque.the_field (Ready.the_row κ J gh)) (OfDeque.the_field_send (Ready.the_row κ J gh) ready_send),
        (
          as_row_send (Vec.the_field (Thief.the_row (Ready.the_row κ J gh)) Heap.the_row ghosts)
              (Vec-send (Thief.the_row (Ready.the_row κ J gh)) (OfThief.the_send (Ready.the_row κ J gh) ready_send)),
          tt,
        ),
      )

  pub parts_send : IsSend (WorkerParts.the_row κ J gh)
  parts_send =
      declared_send (WorkerParts.the_type κ J gh) (
        OfState.the_send,
        (
          tasks_send,
          (as_row_send (Option.the_field (First.the_row κ J gh)) (OfOption.the_field_send (First.the_row κ J gh) first_send), tt),
        ),
      )

  fronts_sync : IsSync (Vec.the_row (Front.the_row (Ready.the_row κ J gh)) Heap.the_row ghosts)
  fronts_sync = Vec-sync (Front.the_row (Ready.the_row κ J gh)) (OfFront.the_sync (Ready.the_row κ J gh) ready_send)

  tables_sync : IsSync (Vec.the_row (Mutex.the_row (ScopeTable.the_row (Mutex.the_row (Inner.the_row κ J gh)))) Heap.the_row ghosts)
  tables_sync = Vec-sync (Mutex.the_row (ScopeTable.the_row (Mutex.the_row (Inner.the_row κ J gh)))) (OfMutex.the_sync (ScopeTable.the_row (Mutex.the_row (Inner.the_row κ J gh))) (table_send κ J gh))

  pub pool_sync : IsSync (Pool.the_row κ J gh)
  pool_sync =
      declared_sync (Pool.the_type κ J gh) (
        as_row_sync (Vec.the_field (Front.the_row (Ready.the_row κ J gh)) Heap.the_row ghosts) fronts_sync,
        (
          as_row_sync (Vec.the_field (Mutex.the_row (ScopeTable.the_row (Mutex.the_row (Inner.the_row κ J gh)))) Heap.the_row ghosts) tables_sync,
          (
            as_row_sync (Vec.the_field SleepSlot.the_row Heap.the_row ghosts) (Vec-sync SleepSlot.the_row OfSleepSlot.the_sync),
            (
              search (sendable, crosses) depth 30 fits 5000,
              (search (sendable, crosses) depth 30 fits 5000, tt),
            ),
          ),
        ),
      )

  own_code_sync : IsSync (OwnCode.the_row κ J gh)
  own_code_sync =
      view_sync (InOwnCode.the_row κ J gh) _ _ _ _
      (declared_sync (InOwnCode.the_type κ J gh) (
        program_code_sync κ,
        (as_row_sync (PhantomData.the_field J) (OfPhantom.the_field_sync J), tt),
      ))

  -- the caller lends the gate
  pub shared_sync : (G : RattleType) → (gg : GateGhosts G.Denot) → IsSync G → IsSync (Shared.the_row κ J G gh gg)
  shared_sync G gg gate =
      declared_sync (Shared.the_type κ J G gh gg) (
        job_sync κ,
        (
          own_code_sync,
          (
            OfSettings.the_sync,
            (
              search (sendable, crosses) depth 30 fits 5000,
              (
                OfTickets.the_sync,
                (
                  pool_sync,
                  (
                    as_row_sync (Option.the_field (LockedLog.the_row κ J gh))
                        (OfOption.the_field_sync (LockedLog.the_row κ J gh) (locked_log_sync κ J gh)),
                    tt,
                  ),
                ),
              ),
            ),
          ),
        ),
      )
