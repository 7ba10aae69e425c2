use Rattle.printing.proofs.Appending.{fails, begins_longer, then_writes}
use Rattle.driver.proofs.several.emit_name.Goals as goal

pub returns-in_err-emit_file : goal.returns-in_err-emit_file
returns-in_err-emit_file g c = fails _ c.from_residual.ensures.0 (begins_longer _ _ _ _ c.in_err-emit_file.ensures)

pub returns : goal.returns
returns g c = then_writes _ _ _ _ _ _ c.in_ok-emit_file.ensures c.emit_text.ensures
