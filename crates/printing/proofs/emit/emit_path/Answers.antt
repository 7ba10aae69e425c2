use Rattle.printing.proofs.Appending.{fails, begins_longer, then_writes}
use Rattle.printing.proofs.emit.emit_path.Goals as goal

pub returns-in_err-append : goal.returns-in_err-append
returns-in_err-append g c = fails _ c.from_residual.ensures.0 (begins_longer _ _ _ _ c.in_err-append.ensures)

pub returns : goal.returns
returns g c = then_writes _ _ _ _ _ _ c.in_ok-append.ensures (rw c.deref.ensures.value at c.emit_turns.ensures)
