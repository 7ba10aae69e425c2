use Rattle.printing.proofs.Appending.{fails, begins_longer, then_writes}
use Rattle.printing.proofs.reasons.emit_named.Goals as goal

pub returns-in_err-emit_text : goal.returns-in_err-emit_text
returns-in_err-emit_text g c = fails _ c.from_residual.ensures.0 (begins_longer _ _ _ _ c.in_err-emit_text.ensures)

pub returns : goal.returns
returns g c = then_writes _ _ _ _ _ _ c.in_ok-emit_text.ensures c.emit_text-2.ensures
