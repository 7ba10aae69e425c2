use Rattle.std.proofs.Common.{◌≡◌, take}
use Rattle.std.specs.Prelude.{map}
use Rattle.types.specs.Translation.{fault}
use Rattle.task_run.proofs.copy.faults.Given as goal

-- the faults so far
abbrev pub invariant-loop-fault : goal.invariant-loop-fault
invariant-loop-fault l = map fault l.copies.items ≡ map fault (take l.fault-index l.faults)
