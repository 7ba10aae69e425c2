-- The reasons why a run has no outcome.
use Rattle.std.specs.Prelude.{ℕ, ◌≡◌, ◌≤◌, List, codes, false}
use Rattle.finish_scope.specs.Inconsistent.{runs_out}
use Rattle.finish_scope.specs.declared.run_error.RunError.{RunError}
use Rattle.finish_scope.specs.declared.run_error.RunError.TheVariants.{OutOfMemory, RefusedPush}
use Rattle.finish_scope.specs.declared.run_error.RunError.TheVariants.{RefusedThread}
use Rattle.finish_scope.specs.declared.run_error.RunError.TheVariants.{IssuedTooOften, TooManyTasks, Gather}
use Rattle.finish_scope.specs.declared.run_error.RunError.TheVariants.{NotDue, NoOwner, NoScope}
use Rattle.finish_scope.specs.declared.run_error.RunError.TheVariants.{NoReport, Unlogged}

-- the code that the program prints
abbrev pub error_code : RunError → List ℕ
error_code OutOfMemory = codes "E1"
error_code (RefusedPush c) = codes "E1"
error_code (RefusedThread c) = codes "E1"
error_code (IssuedTooOften c) = codes "E1"
error_code (TooManyTasks ticket) = codes "E2"
error_code (Gather u) = codes "E3"
error_code (NotDue c) = codes "E4"
error_code (NoOwner c) = codes "E4"
error_code (NoScope c) = codes "E4"
error_code (NoReport c) = codes "E4"
error_code Unlogged = codes "E5"

-- why a worker ends a run: E2 has a ticket whose number is at least the maximum number of tasks of the run;
-- E3 never means out of memory; no worker reports E5
abbrev pub IsCause : (tasks : ℕ) → RunError → Type 0
IsCause tasks OutOfMemory = Unit {0}
IsCause tasks (RefusedPush c) = Unit {0}
IsCause tasks (RefusedThread c) = Unit {0}
IsCause tasks (IssuedTooOften c) = Unit {0}
IsCause tasks (TooManyTasks ticket) = tasks ≤ ticket.number
IsCause tasks (Gather u) = runs_out u.error ≡ false
IsCause tasks (NotDue c) = Unit {0}
IsCause tasks (NoOwner c) = Unit {0}
IsCause tasks (NoScope c) = Unit {0}
IsCause tasks (NoReport c) = Unit {0}
IsCause tasks Unlogged = ⊥

-- why a run has no outcome; E5 only if it has a log
abbrev pub IsRunCause : (tasks : ℕ) → (HasLog : Type 0) → RunError → Type 0
IsRunCause tasks HasLog Unlogged = HasLog
IsRunCause tasks HasLog OutOfMemory = IsCause tasks OutOfMemory
IsRunCause tasks HasLog (RefusedPush c) = IsCause tasks (RefusedPush c)
IsRunCause tasks HasLog (RefusedThread c) = IsCause tasks (RefusedThread c)
IsRunCause tasks HasLog (IssuedTooOften c) = IsCause tasks (IssuedTooOften c)
IsRunCause tasks HasLog (TooManyTasks ticket) = IsCause tasks (TooManyTasks ticket)
IsRunCause tasks HasLog (Gather u) = IsCause tasks (Gather u)
IsRunCause tasks HasLog (NotDue c) = IsCause tasks (NotDue c)
IsRunCause tasks HasLog (NoOwner c) = IsCause tasks (NoOwner c)
IsRunCause tasks HasLog (NoScope c) = IsCause tasks (NoScope c)
IsRunCause tasks HasLog (NoReport c) = IsCause tasks (NoReport c)

-- none of so many workers reported anything
abbrev pub IsSilence : (workers : ℕ) → RunError → Type 0
IsSilence workers OutOfMemory = ⊥
IsSilence workers (RefusedPush c) = ⊥
IsSilence workers (RefusedThread c) = ⊥
IsSilence workers (IssuedTooOften c) = ⊥
IsSilence workers (TooManyTasks ticket) = ⊥
IsSilence workers (Gather u) = ⊥
IsSilence workers (NotDue c) = ⊥
IsSilence workers (NoOwner c) = ⊥
IsSilence workers (NoScope c) = ⊥
IsSilence workers (NoReport c) = c.workers ≡ workers
IsSilence workers Unlogged = ⊥

-- an error that a worker may report: no worker reports that a thread was refused, that nobody reported
-- anything, or that the log was lost
abbrev pub IsOfWorker : RunError → Type 0
IsOfWorker OutOfMemory = Unit {0}
IsOfWorker (RefusedPush c) = Unit {0}
IsOfWorker (RefusedThread c) = ⊥
IsOfWorker (IssuedTooOften c) = Unit {0}
IsOfWorker (TooManyTasks ticket) = Unit {0}
IsOfWorker (Gather u) = Unit {0}
IsOfWorker (NotDue c) = Unit {0}
IsOfWorker (NoOwner c) = Unit {0}
IsOfWorker (NoScope c) = Unit {0}
IsOfWorker (NoReport c) = ⊥
IsOfWorker Unlogged = ⊥
