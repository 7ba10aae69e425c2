use Rattle.printing.proofs.Appending.{fails, begins_longer, then_begins, then_writes}
use Rattle.printing.proofs.emit.emit_array.Goals as goal

pub returns-in_err-append : goal.returns-in_err-append
returns-in_err-append g c = fails _ c.from_residual.ensures.0 (begins_longer _ _ _ _ c.in_err-append.ensures)

pub returns-in_err-append-2 : goal.returns-in_err-append-2
returns-in_err-append-2 g c =
    fails _ c.from_residual-in_err-append-2.ensures.0
    (then_begins _ _ _ _ _ c.in_ok-append.ensures
    (begins_longer _ _ _ _ (rw c.as_bytes.ensures.value at c.in_err-append-2.ensures)))

pub returns-in_err-emit_spaced : goal.returns-in_err-emit_spaced
returns-in_err-emit_spaced g c =
    fails _ c.from_residual-in_err-emit_spaced.ensures.0
    (then_begins _ _ _ _ _ c.in_ok-append.ensures
    (then_begins _ _ _ _ _ (rw c.as_bytes.ensures.value at c.in_ok-append-2.ensures)
    (begins_longer _ _ _ _ c.in_err-emit_spaced.ensures)))

pub returns : goal.returns
returns g c =
    then_writes _ _ _ _ _ _ c.in_ok-append.ensures
    (then_writes _ _ _ _ _ _ (rw c.as_bytes.ensures.value at c.in_ok-append-2.ensures)
    (then_writes _ _ _ _ _ _ c.in_ok-emit_spaced.ensures c.append-3.ensures))
