use Rattle.printing.proofs.Appending.{fails, begins_longer, then_writes}
use Rattle.failures.proofs.message.emit_message.Goals as goal

pub returns-in_err-emit_failure : goal.returns-in_err-emit_failure
returns-in_err-emit_failure g c = fails _ c.from_residual.ensures.0 (begins_longer _ _ _ _ c.in_err-emit_failure.ensures)

pub returns : goal.returns
returns g c = then_writes _ _ _ _ _ _ c.in_ok-emit_failure.ensures c.append.ensures
