-- A run that nobody reports.
use Rattle.std.proofs.Common.{◌≡◌, ℕ, ◌⊎◌, inl, inr, All, List, length, Option, Some, None, Result, subst}
use Rattle.std.specs.Prelude.{IfErr, IfSome}
use Rattle.std.proofs.lemmas.Result.{IfErr-weaker}
use Rattle.task_run.specs.declared.job.Job.{Job}
use Rattle.finish_scope.specs.RunErrors.{IsOfWorker, IsSilence}
use Rattle.finish_scope.specs.declared.run_error.RunError.{RunError}
use Rattle.finish_scope.specs.declared.run_error.RunError.TheVariants.{OutOfMemory, RefusedPush, RefusedThread}
use Rattle.finish_scope.specs.declared.run_error.RunError.TheVariants.{IssuedTooOften, TooManyTasks, Gather}
use Rattle.finish_scope.specs.declared.run_error.RunError.TheVariants.{NotDue, NoOwner, NoScope, NoReport, Unlogged}
use Rattle.tickets.specs.Seats.{AreOnly, IsSeatOf, seats_of}
use Rattle.tickets.specs.declared.word.Seat.{Seat}
use Rattle.tickets.specs.declared.word.Tickets.{Tickets}
use Rattle.workers.specs.Causes.{IsReason}
use Rattle.workers.specs.WorkerStates.{EndsRun, IsSilentIf}
use Rattle.workers.proofs.Draws.{reason}

-- it has the cause of a run, and nothing else is said of it
pub silence_reason : (o : Option Job) (t : Tickets) (tasks workers : ℕ) (e : RunError) → IsSilence workers e
    → IsReason o t tasks e
silence_reason o t tasks workers OutOfMemory is = absurd is
silence_reason o t tasks workers (RefusedPush c) is = absurd is
silence_reason o t tasks workers (RefusedThread c) is = absurd is
silence_reason o t tasks workers (IssuedTooOften c) is = absurd is
silence_reason o t tasks workers (TooManyTasks ticket) is = absurd is
silence_reason o t tasks workers (Gather u) is = absurd is
silence_reason o t tasks workers (NotDue c) is = absurd is
silence_reason o t tasks workers (NoOwner c) is = absurd is
silence_reason o t tasks workers (NoScope c) is = absurd is
silence_reason o t tasks workers (NoReport c) is = record { cause = tt; ticket = tt; happened = tt }
silence_reason o t tasks workers Unlogged is = absurd is

-- why a run has no outcome: by what was reported, or because nobody reported anything
pub reported_reason : {T : Type 0} (o : Option Job) (t : Tickets) (j : Job) (tasks n workers : ℕ) (x : Option T)
    (e : Option RunError) (f : RunError) (seats : List Seat) → All (IsSeatOf t) seats
    → length seats ≡ seats_of t → AreOnly n seats → IfSome e (EndsRun o t tasks seats)
    → (e ≡ Some f) ⊎ ((e ≡ None) × (x ≡ None) × IsSilence workers f) → IsReason o t tasks f
reported_reason o t j tasks n workers x e f seats of all only ends (inl is) =
    let told = subst (λ (y : Option RunError). IfSome y (EndsRun o t tasks seats)) is ends in
    reason o t j tasks n f seats of all only told
reported_reason o t j tasks n workers x e f seats of all only ends (inr is) =
    silence_reason o t tasks workers f is.2

-- an error that ends a run is one of a worker
pub own_error : (o : Option Job) (t : Tickets) (tasks : ℕ) (seats : List Seat) (e : Option RunError)
    → IfSome e (EndsRun o t tasks seats) → IfSome e IsOfWorker
own_error o t tasks seats None ends = tt
own_error o t tasks seats (Some e) ends = ends.own

-- a worker doesn't report that nobody reported anything
of_worker : (so : Type 0) (e : RunError) → IsOfWorker e → IsSilentIf so e
of_worker so OutOfMemory own = tt
of_worker so (RefusedPush c) own = tt
of_worker so (RefusedThread c) own = tt
of_worker so (IssuedTooOften c) own = tt
of_worker so (TooManyTasks ticket) own = tt
of_worker so (Gather u) own = tt
of_worker so (NotDue c) own = tt
of_worker so (NoOwner c) own = tt
of_worker so (NoScope c) own = tt
of_worker so (NoReport c) own = absurd own
of_worker so Unlogged own = tt

-- what is so may be said
said : (so : Type 0) (e : RunError) → so → IsSilentIf so e
said so OutOfMemory is = tt
said so (RefusedPush c) is = tt
said so (RefusedThread c) is = tt
said so (IssuedTooOften c) is = tt
said so (TooManyTasks ticket) is = tt
said so (Gather u) is = tt
said so (NotDue c) is = tt
said so (NoOwner c) is = tt
said so (NoScope c) is = tt
said so (NoReport c) is = is
said so Unlogged is = tt

-- an error that was reported is one of a worker, or nobody reported anything
pub silent_if : {T : Type 0} (workers : ℕ) (x : Option T) (e : Option RunError) (f : RunError)
    → IfSome e IsOfWorker → (e ≡ Some f) ⊎ ((e ≡ None) × (x ≡ None) × IsSilence workers f) → IsSilentIf ((x ≡ None) × (e ≡ None)) f
silent_if workers x e f own (inl is) =
    of_worker ((x ≡ None) × (e ≡ None)) f (subst (λ (y : Option RunError). IfSome y IsOfWorker) is own)
silent_if workers x e f own (inr is) = said ((x ≡ None) × (e ≡ None)) f (is.1, is.0)

more_silent : (so more : Type 0) → (so → more) → (e : RunError) → IsSilentIf so e → IsSilentIf more e
more_silent so more to OutOfMemory is = tt
more_silent so more to (RefusedPush c) is = tt
more_silent so more to (RefusedThread c) is = tt
more_silent so more to (IssuedTooOften c) is = tt
more_silent so more to (TooManyTasks ticket) is = tt
more_silent so more to (Gather u) is = tt
more_silent so more to (NotDue c) is = tt
more_silent so more to (NoOwner c) is = tt
more_silent so more to (NoScope c) is = tt
more_silent so more to (NoReport c) is = to is
more_silent so more to Unlogged is = tt

-- the same of a call that may end so
pub silent_so : {T : Type 0} (so more : Type 0) → (so → more) → (r : Result T RunError)
    → IfErr r (IsSilentIf so) → IfErr r (IsSilentIf more)
silent_so so more to r is = IfErr-weaker r (IsSilentIf so) (IsSilentIf more) (more_silent so more to) is
