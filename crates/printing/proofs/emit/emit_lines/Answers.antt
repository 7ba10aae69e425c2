use Rattle.std.proofs.Common.{arith}
use Rattle.printing.proofs.Appending.{fails, first_begins}
use Rattle.printing.proofs.emit.emit_lines.Goals as goal

pub returns-in_err-emit_line : goal.returns-in_err-emit_line
returns-in_err-emit_line g c =
    fails _ c.from_residual.ensures.0
    (first_begins _ _ c.loop-line.line-index c.line-item.result _ _ _ _ (omega arith) c.line-item.is
    c.loop-line.invariant (rw c.deref.ensures.value at c.in_err-emit_line.ensures))
