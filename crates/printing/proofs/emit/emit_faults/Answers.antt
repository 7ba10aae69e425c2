use Rattle.std.proofs.Common.{arith}
use Rattle.printing.proofs.Appending.{fails, first_begins}
use Rattle.printing.proofs.emit.emit_faults.Goals as goal

pub returns-in_err-emit_fault : goal.returns-in_err-emit_fault
returns-in_err-emit_fault g c =
    fails _ c.from_residual.ensures.0
    (first_begins _ _ c.loop-fault.fault-index c.fault-item.result _ _ _ _ (omega arith) c.fault-item.is
    c.loop-fault.invariant c.in_err-emit_fault.ensures)
