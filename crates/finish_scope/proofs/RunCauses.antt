-- The causes of a run's errors, with a log and without.
use Rattle.std.proofs.Common.{ℕ}
use Rattle.finish_scope.specs.RunErrors.{IsCause, IsRunCause}
use Rattle.finish_scope.specs.declared.run_error.RunError.{RunError}
use Rattle.finish_scope.specs.declared.run_error.RunError.TheVariants.{OutOfMemory, RefusedPush, RefusedThread}
use Rattle.finish_scope.specs.declared.run_error.RunError.TheVariants.{IssuedTooOften, TooManyTasks, Gather}
use Rattle.finish_scope.specs.declared.run_error.RunError.TheVariants.{NotDue, NoOwner, NoScope, NoReport, Unlogged}

-- what a worker reports is a cause, whether there is a log or not
pub run_cause : (tasks : ℕ) (HasLog : Type 0) (e : RunError) → IsCause tasks e → IsRunCause tasks HasLog e
run_cause tasks HasLog OutOfMemory cause = cause
run_cause tasks HasLog (RefusedPush c) cause = cause
run_cause tasks HasLog (RefusedThread c) cause = cause
run_cause tasks HasLog (IssuedTooOften c) cause = cause
run_cause tasks HasLog (TooManyTasks ticket) cause = cause
run_cause tasks HasLog (Gather u) cause = cause
run_cause tasks HasLog (NotDue c) cause = cause
run_cause tasks HasLog (NoOwner c) cause = cause
run_cause tasks HasLog (NoScope c) cause = cause
run_cause tasks HasLog (NoReport c) cause = cause
run_cause tasks HasLog Unlogged cause = absurd cause

-- without a log it is one that a worker reports
pub cause_unlogged : (tasks : ℕ) (HasLog : Type 0) → (HasLog → ⊥) → (e : RunError) → IsRunCause tasks HasLog e → IsCause tasks e
cause_unlogged tasks HasLog none OutOfMemory cause = cause
cause_unlogged tasks HasLog none (RefusedPush c) cause = cause
cause_unlogged tasks HasLog none (RefusedThread c) cause = cause
cause_unlogged tasks HasLog none (IssuedTooOften c) cause = cause
cause_unlogged tasks HasLog none (TooManyTasks ticket) cause = cause
cause_unlogged tasks HasLog none (Gather u) cause = cause
cause_unlogged tasks HasLog none (NotDue c) cause = cause
cause_unlogged tasks HasLog none (NoOwner c) cause = cause
cause_unlogged tasks HasLog none (NoScope c) cause = cause
cause_unlogged tasks HasLog none (NoReport c) cause = cause
cause_unlogged tasks HasLog none Unlogged cause = none cause

-- and so with another log
pub cause_so : (tasks : ℕ) (A B : Type 0) → (A → B) → (e : RunError) → IsRunCause tasks A e → IsRunCause tasks B e
cause_so tasks A B so OutOfMemory cause = cause
cause_so tasks A B so (RefusedPush c) cause = cause
cause_so tasks A B so (RefusedThread c) cause = cause
cause_so tasks A B so (IssuedTooOften c) cause = cause
cause_so tasks A B so (TooManyTasks ticket) cause = cause
cause_so tasks A B so (Gather u) cause = cause
cause_so tasks A B so (NotDue c) cause = cause
cause_so tasks A B so (NoOwner c) cause = cause
cause_so tasks A B so (NoScope c) cause = cause
cause_so tasks A B so (NoReport c) cause = cause
cause_so tasks A B so Unlogged cause = so cause
