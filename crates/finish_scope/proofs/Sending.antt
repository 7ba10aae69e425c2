-- The state of a scope can be sent to other threads, and all of them can share a scope.
use Rattle.std.proofs.Crossing.{crosses, Arc-send, Vec-send}
use denote.Builtin.{usize}
use denote.Param.Send.{IsSend, sendable, view_send, plain_send}
use denote.Param.SendFields.{declared_send, as_row_send}
use denote.RattleType.{RattleType}
use denote.Ref.{NamedLft}
use Rattle.finish_scope.specs.declared.running.Running.{Ghosts}
use Rattle.finish_scope.specs.contracts.inner.Inner as Inner
use Rattle.finish_scope.specs.contracts.inner.Inner.TheInside as InInner
use Rattle.finish_scope.specs.contracts.scope_table.ScopeTable as ScopeTable
use Rattle.finish_scope.specs.contracts.resting.Resting as Resting
use Rattle.std.specs.contracts.alloc.Global as Heap
use Rattle.std.specs.contracts.impls.GlobalAllocator.TheImpl.{ghosts}
use Rattle.std.specs.contracts.marker.PhantomData as PhantomData
use Rattle.std.specs.contracts.option.Option as Option
use Rattle.std.specs.contracts.sync.Arc as Arc
use Rattle.std.specs.contracts.sync.Mutex as Mutex
use Rattle.std.specs.contracts.vec.Vec as Vec
use Rattle.std.proofs.marker.PhantomData.TheSendSync as OfPhantom
use Rattle.std.proofs.option.Option.TheSendSync as OfOption
use Rattle.std.proofs.sync.Mutex.TheSendSync as OfMutex
use Rattle.task_run.specs.contracts.result.TaskResult as RunResult
use Rattle.task_run.proofs.result.TaskResult.TheSendSync as OfResult
use Rattle.weights.proofs.book.Book.TheSendSync as OfBook
use Rattle.finish_scope.proofs.resting.ScopePosition.TheSendSync as OfPlace
use Rattle.finish_scope.proofs.Crossing.{parked_send}

pub phantom_send : (J : RattleType) → IsSend (denote.Hole.as_row (PhantomData.the_field J))
phantom_send J = as_row_send (PhantomData.the_field J) (OfPhantom.the_field_send J)

pub resting_send : (κ : NamedLft) → IsSend (Resting.the_row κ)
resting_send κ =
    declared_send (Resting.the_type κ) (
      search (sendable, crosses, parked_send) depth 60 fits 50000,
      (search (sendable, crosses, OfPlace.the_send) depth 60 fits 50000, tt),
    )

pub inner_send : (κ : NamedLft) (J : RattleType) (gh : Ghosts J.Denot) → IsSend (Inner.the_row κ J gh)
inner_send κ J gh =
    view_send (InInner.the_row κ J gh) _ _ _ _
    (declared_send (InInner.the_type κ J gh) (
      OfBook.the_send,
      (
        as_row_send (Vec.the_field RunResult.the_row Heap.the_row ghosts) (Vec-send RunResult.the_row OfResult.the_send),
        (
          as_row_send (Option.the_field (Resting.the_row κ)) (OfOption.the_field_send (Resting.the_row κ) (resting_send κ)),
          (
            search sendable,
            (phantom_send J, tt),
          ),
        ),
      ),
    ))

-- a scope is shared
module _ (κ : NamedLft) (J : RattleType) (gh : Ghosts J.Denot) where
  pub scope_send : IsSend (Arc.the_row (Mutex.the_row (Inner.the_row κ J gh)) Heap.the_row ghosts)
  scope_send =
      Arc-send (Mutex.the_row (Inner.the_row κ J gh)) (OfMutex.the_send (Inner.the_row κ J gh) (inner_send κ J gh))
      (OfMutex.the_sync (Inner.the_row κ J gh) (inner_send κ J gh))

  abbrev pub scope_row : RattleType
  scope_row = Mutex.the_row (Inner.the_row κ J gh)

  pub table_send : IsSend (ScopeTable.the_row scope_row)
  table_send =
      let scope = Arc.the_row scope_row Heap.the_row ghosts in
      let scopes = Option.the_row scope in
      declared_send (ScopeTable.the_type scope_row) (
        as_row_send (Vec.the_field scopes Heap.the_row ghosts) (Vec-send scopes (OfOption.the_send scope scope_send)),
        (as_row_send (Vec.the_field usize Heap.the_row ghosts) (Vec-send usize (plain_send _ _ _ _ _)), tt),
      )
