-- The exit status of a failure.
use Rattle.std.specs.Prelude.{ℕ}
use Rattle.failures.specs.declared.failure.Failure.{Failure}
use Rattle.failures.specs.declared.failure.Failure.TheVariants.{Syntax, Types, NoMemoryInCheck}
use Rattle.failures.specs.declared.failure.Failure.TheVariants.{Input, Run, Trace, NoMemory}
use Rattle.syntax.specs.declared.error.SyntaxError.TheVariants.{OutOfMemory as MemoryInSyntax}
use Rattle.types.specs.declared.error.TypeError.TheVariants.{OutOfMemory as MemoryInTypes}
use Rattle.types.specs.declared.input_error.InputError.TheVariants.{OutOfMemory as MemoryInInput}
use Rattle.finish_scope.specs.declared.run_error.RunError.TheVariants.{OutOfMemory as MemoryInRun}
use Rattle.finish_scope.specs.declared.run_error.RunError.TheVariants.{RefusedPush, RefusedThread}
use Rattle.finish_scope.specs.declared.run_error.RunError.TheVariants.{IssuedTooOften}
use Rattle.finish_scope.specs.declared.run_error.RunError.TheVariants.{TooManyTasks, Gather}
use Rattle.finish_scope.specs.declared.run_error.RunError.TheVariants.{NotDue, NoOwner, NoScope}
use Rattle.finish_scope.specs.declared.run_error.RunError.TheVariants.{NoReport, Unlogged}
use Rattle.trace_text.specs.declared.error.TraceError.TheVariants.{NoMemory as MemoryInTrace}

-- 4 for running out of memory and for too many tasks, 5 for a result, a weight or events that are
-- lost or inconsistent, otherwise 1
abbrev pub failure_status : Failure → ℕ
failure_status (Syntax MemoryInSyntax) = 4
failure_status (Types MemoryInTypes) = 4
failure_status NoMemoryInCheck = 4
failure_status (Input MemoryInInput) = 4
failure_status (Run MemoryInRun) = 4
failure_status (Run (RefusedPush c)) = 4
failure_status (Run (RefusedThread c)) = 4
failure_status (Run (IssuedTooOften c)) = 4
failure_status (Run (TooManyTasks ticket)) = 4
failure_status (Trace MemoryInTrace) = 4
failure_status NoMemory = 4
failure_status (Run (Gather u)) = 5
failure_status (Run (NotDue c)) = 5
failure_status (Run (NoOwner c)) = 5
failure_status (Run (NoScope c)) = 5
failure_status (Run (NoReport c)) = 5
failure_status (Run Unlogged) = 5
failure_status _ = 1
