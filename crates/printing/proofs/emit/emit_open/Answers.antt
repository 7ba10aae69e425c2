use Rattle.printing.proofs.Appending.{fails, begins_longer, then_begins, then_writes}
use Rattle.printing.proofs.emit.emit_open.Goals as goal

pub returns-in_err-append : goal.returns-in_err-append
returns-in_err-append g c = fails _ c.from_residual.ensures.0 (begins_longer _ _ _ _ c.in_err-append.ensures)

pub returns-in_err-emit_label : goal.returns-in_err-emit_label
returns-in_err-emit_label g c =
    fails _ c.from_residual-in_err-emit_label.ensures.0
    (then_begins _ _ _ _ _ c.in_ok-append.ensures (begins_longer _ _ _ _ c.in_err-emit_label.ensures))

pub returns : goal.returns
returns g c =
    then_writes _ _ _ _ _ _ c.in_ok-append.ensures
    (then_writes _ _ _ _ _ _ c.in_ok-emit_label.ensures c.append-2.ensures)
