use Rattle.printing.proofs.Appending.{fails, begins_longer, then_writes}
use Rattle.printing.proofs.emit.emit_line.Goals as goal

pub returns-in_err-emit_joined : goal.returns-in_err-emit_joined
returns-in_err-emit_joined g c = fails _ c.from_residual.ensures.0 (begins_longer _ _ _ _ c.in_err-emit_joined.ensures)

pub returns : goal.returns
returns g c = then_writes _ _ _ _ _ _ c.in_ok-emit_joined.ensures c.append.ensures
