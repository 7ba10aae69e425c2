-- What happened, for each reason why a run has no outcome.
use Rattle.std.specs.Prelude.{ℕ, ◌≡◌, ◌≢◌, ◌<◌, ◌≤◌, ◌⊎◌, List, Option, None, true, IsPermutation}
use Rattle.std.specs.Borrow.{Bor}
use Rattle.std.specs.Global.{Global}
use Rattle.types.specs.declared.budget.Budget.{Budget}
use Rattle.types.specs.declared.input.Input.{Input}
use Rattle.race_checker.specs.declared.accepted.Accepted.{Accepted}
use Rattle.task_run.specs.declared.job.Job.{Job}
use Rattle.task_run.specs.declared.result.TaskResult.{TaskResult as Made}
use Rattle.finish_scope.specs.declared.run_error.RunError.{RunError}
use Rattle.finish_scope.specs.declared.run_error.RunError.TheVariants as In
use Rattle.tickets.specs.Seats.{IsTicketOf, WasDrawn, WasDrawnFrom}
use Rattle.tickets.specs.Shares.{times}
use Rattle.tickets.specs.declared.word.Tickets.{Tickets}
use Rattle.weighted_task.specs.declared.finish.Parked.{Parked}
use Rattle.finish_scope.specs.Own.{IsOwnScope}
use Rattle.finish_scope.specs.RunErrors.{IsCause, IsOfWorker, IsRunCause}
use Rattle.finish_scope.specs.Scopes.{Standing, Cannot, IsEven, IsOwnerless, IsUndue, out_of}
use Rattle.finish_scope.specs.Settling.{AreUnsettled, DoesNotSettle}
use Rattle.finish_scope.specs.declared.causes.Ownerless.{Ownerless}
use Rattle.finish_scope.specs.declared.causes.Spent.{Spent}
use Rattle.finish_scope.specs.declared.causes.Undue.{Undue}
use Rattle.finish_scope.specs.declared.scope_table.FindError.{FindError}
use Rattle.finish_scope.specs.declared.scope_table.FindError.TheVariants.{OutOfMemory as NoCount}
use Rattle.finish_scope.specs.declared.scope_table.FindError.TheVariants.{NoScope as EmptySlot}
use Rattle.finish_scope.specs.declared.settling.SettleError.{SettleError}
use Rattle.finish_scope.specs.declared.settling.SettleError.TheVariants.{OutOfMemory as NoMemory}
use Rattle.finish_scope.specs.declared.settling.SettleError.TheVariants.{Inconsistent}
use Rattle.finish_scope.specs.declared.late.Reason.{Reason}
use Rattle.finish_scope.specs.declared.late.Reason.TheVariants.{NotDue as L1, IssuedTooOften as L2}
use Rattle.workers.specs.declared.error.Trouble.{Trouble}
use Rattle.workers.specs.declared.error.Trouble.TheVariants.{OutOfMemory, RefusedPush, IssuedTooOften}
use Rattle.workers.specs.declared.error.Trouble.TheVariants.{Gather, NotDue, NoOwner, NoScope}

module _ (o : Option Job) where
  -- all results that the scope holds are of tasks of the run, and so is the owner that is parked there
  abbrev pub IsOfRun : Standing → Type 0
  IsOfRun s = IsOwnScope o s.results s.owner

  -- a scope of the run, whose weight was out, issued no more, because it had issued w0 2^31 times
  pub record IsSpent (c : Spent) : Type 0 where
    pub scope : Standing
    pub of : IsOfRun scope
    pub weight : ℕ
    pub cannot : Cannot scope weight (L2 c)

  -- a scope of the run was given more than was out, or a second owner
  pub record WasNotDue (c : Undue) : Type 0 where
    pub scope : Standing
    pub of : IsOfRun scope
    pub weight : ℕ
    pub is : IsUndue scope weight c
    pub late : (out_of scope < weight) ⊎ (scope.owner ≢ None)

  -- all weight of a scope of the run was back, and nobody was parked there
  pub record HadNoOwner (c : Ownerless) : Type 0 where
    pub scope : Standing
    pub of : IsOfRun scope
    pub is : IsOwnerless scope c
    pub even : IsEven scope
    pub nobody : scope.owner ≡ None

  -- memory had run out for a result of the run, or for the entry of a weight
  pub record WasMarked : Type 0 where
    pub scope : Standing
    pub of : IsOfRun scope
    pub marked : scope.marked ≡ true

-- what happened, by the trouble that a worker had
abbrev pub Happens : Option Job → Trouble → Type 0
Happens o OutOfMemory = Unit {0}
Happens o (RefusedPush c) = Unit {0}
Happens o (IssuedTooOften c) = IsSpent o c
Happens o (Gather u) = DoesNotSettle o u
Happens o (NotDue c) = WasNotDue o c
Happens o (NoOwner c) = HadNoOwner o c
Happens o (NoScope c) = Unit {0}

-- results that don't settle are all of these, in some order, with that of this owner
abbrev pub IsOfResults : (owner : Parked) → (results : List Made) → Trouble → Type 0
IsOfResults p rs OutOfMemory = Unit {0}
IsOfResults p rs (RefusedPush c) = Unit {0}
IsOfResults p rs (IssuedTooOften c) = Unit {0}
IsOfResults p rs (Gather u) = (ss : List Made) × IsPermutation rs ss × AreUnsettled p ss u
IsOfResults p rs (NotDue c) = Unit {0}
IsOfResults p rs (NoOwner c) = Unit {0}
IsOfResults p rs (NoScope c) = Unit {0}

-- what happened at a scope, by what a call under its lock answered
abbrev pub HappensAtScope : Option Job → Trouble → Type 0
HappensAtScope o OutOfMemory = WasMarked o
HappensAtScope o (RefusedPush c) = ⊥
HappensAtScope o (IssuedTooOften c) = IsSpent o c
HappensAtScope o (Gather u) = ⊥
HappensAtScope o (NotDue c) = WasNotDue o c
HappensAtScope o (NoOwner c) = HadNoOwner o c
HappensAtScope o (NoScope c) = ⊥

-- what happened, by the error of a run
abbrev pub Happened : Option Job → RunError → Type 0
Happened o In.OutOfMemory = Unit {0}
Happened o (In.RefusedPush c) = Unit {0}
Happened o (In.RefusedThread c) = Unit {0}
Happened o (In.IssuedTooOften c) = IsSpent o c
Happened o (In.TooManyTasks ticket) = Unit {0}
Happened o (In.Gather u) = DoesNotSettle o u
Happened o (In.NotDue c) = WasNotDue o c
Happened o (In.NoOwner c) = HadNoOwner o c
Happened o (In.NoScope c) = Unit {0}
Happened o (In.NoReport c) = Unit {0}
Happened o In.Unlogged = Unit {0}

-- the ticket of E2 was drawn from this word, and is among these draws
abbrev pub HasDrawn : Tickets → List ℕ → RunError → Type 0
HasDrawn t drawn In.OutOfMemory = Unit {0}
HasDrawn t drawn (In.RefusedPush c) = Unit {0}
HasDrawn t drawn (In.RefusedThread c) = Unit {0}
HasDrawn t drawn (In.IssuedTooOften c) = Unit {0}
HasDrawn t drawn (In.TooManyTasks ticket) = IsTicketOf t ticket × (1 ≤ times ticket.number drawn)
HasDrawn t drawn (In.Gather u) = Unit {0}
HasDrawn t drawn (In.NotDue c) = Unit {0}
HasDrawn t drawn (In.NoOwner c) = Unit {0}
HasDrawn t drawn (In.NoScope c) = Unit {0}
HasDrawn t drawn (In.NoReport c) = Unit {0}
HasDrawn t drawn In.Unlogged = Unit {0}

-- the ticket of E2 was drawn on a seat of this word
abbrev pub HasTicketFrom : Tickets → RunError → Type 0
HasTicketFrom t In.OutOfMemory = Unit {0}
HasTicketFrom t (In.RefusedPush c) = Unit {0}
HasTicketFrom t (In.RefusedThread c) = Unit {0}
HasTicketFrom t (In.IssuedTooOften c) = Unit {0}
HasTicketFrom t (In.TooManyTasks ticket) = WasDrawnFrom t ticket
HasTicketFrom t (In.Gather u) = Unit {0}
HasTicketFrom t (In.NotDue c) = Unit {0}
HasTicketFrom t (In.NoOwner c) = Unit {0}
HasTicketFrom t (In.NoScope c) = Unit {0}
HasTicketFrom t (In.NoReport c) = Unit {0}
HasTicketFrom t In.Unlogged = Unit {0}

-- the ticket of E2 is one of those that the seats of the workers drew
abbrev pub HasTicket : (workers : ℕ) → RunError → Type 0
HasTicket workers In.OutOfMemory = Unit {0}
HasTicket workers (In.RefusedPush c) = Unit {0}
HasTicket workers (In.RefusedThread c) = Unit {0}
HasTicket workers (In.IssuedTooOften c) = Unit {0}
HasTicket workers (In.TooManyTasks ticket) = WasDrawn workers ticket
HasTicket workers (In.Gather u) = Unit {0}
HasTicket workers (In.NotDue c) = Unit {0}
HasTicket workers (In.NoOwner c) = Unit {0}
HasTicket workers (In.NoScope c) = Unit {0}
HasTicket workers (In.NoReport c) = Unit {0}
HasTicket workers In.Unlogged = Unit {0}

-- why a run with this word, and at most so many tasks, has no outcome
pub record IsReason (o : Option Job) (t : Tickets) (tasks : ℕ) (e : RunError) : Type 0 where
  pub cause : IsCause tasks e
  pub ticket : HasTicketFrom t e
  pub happened : Happened o e

-- the same of a run with a log, or without
pub record IsRunReason (o : Option Job) (t : Tickets) (tasks : ℕ) (HasLog : Type 0) (e : RunError) : Type 0 where
  pub cause : IsRunCause tasks HasLog e
  pub ticket : HasTicketFrom t e
  pub happened : Happened o e

-- the error of a run whose log was lost, or hasn't ended
pub record IsOfLog (e : RunError) : Type 0 where
  pub cause : (tasks : ℕ) → IsRunCause tasks (Unit {0}) e
  pub ticket : (t : Tickets) → HasTicketFrom t e
  pub happened : (o : Option Job) → Happened o e

-- the error that a trouble becomes: one of a worker, its cause, no ticket, and what happened
pub record Becomes (t : Trouble) (e : RunError) : Type 0 where
  pub own : IsOfWorker e
  pub cause : (tasks : ℕ) → IsCause tasks e
  pub undrawn : (w : Tickets) (drawn : List ℕ) → HasDrawn w drawn e
  pub ticket : (w : Tickets) → HasTicketFrom w e
  pub happened : (o : Option Job) → Happens o t → Happened o e

-- the trouble of a worker to which a scope issued nothing
abbrev pub trouble_of : Reason → Trouble
trouble_of (L1 c) = NotDue c
trouble_of (L2 c) = IssuedTooOften c

-- the trouble of a worker whose results don't settle
abbrev pub trouble_by : SettleError → Trouble
trouble_by NoMemory = OutOfMemory
trouble_by (Inconsistent u) = Gather u

-- the trouble of a worker that doesn't find a scope
abbrev pub trouble_at : FindError → Trouble
trouble_at NoCount = OutOfMemory
trouble_at (EmptySlot c) = NoScope c

-- the job of a run with these arguments
abbrev pub job_of : Global → Bor Accepted → Bor Input → Budget → Job
job_of alloc accepted input budget = record {
  alloc = alloc;
  accepted = accepted;
  input = input;
  budget = budget;
}
