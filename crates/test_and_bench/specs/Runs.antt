-- Why a parallel run has no outcome.
use Rattle.finish_scope.specs.RunErrors.{IsCause}
use Rattle.command_line.specs.Requests.{Settings}
use Rattle.failures.specs.declared.failure.Failure.{Failure}
use Rattle.failures.specs.declared.failure.Failure.TheVariants.{Run as RunFailed, NoMemory}

-- a cause that its settings allow; running out of memory is always allowed
abbrev pub TellsNoRun : Settings → Failure → Type 0
TellsNoRun s (RunFailed e) = IsCause s.spread.tasks e
TellsNoRun s NoMemory = Unit {0}
TellsNoRun s _ = ⊥
