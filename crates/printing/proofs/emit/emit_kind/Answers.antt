use Rattle.printing.proofs.Appending.{fails, begins_longer, then_writes}
use Rattle.printing.proofs.emit.emit_kind.Goals as goal

pub returns-in_err-append-in-Raised : goal.returns-in_err-append-in-Raised
returns-in_err-append-in-Raised g c =
    rw c.in-Raised.is (fails _ c.from_residual.ensures.0 (begins_longer _ _ _ _ c.in_err-append-in-Raised.ensures))

pub returns-in_ok-append-in-Raised : goal.returns-in_ok-append-in-Raised
returns-in_ok-append-in-Raised g c = rw c.in-Raised.is (then_writes _ _ _ _ _ _ c.in_ok-append-in-Raised.ensures c.emit_number.ensures)
