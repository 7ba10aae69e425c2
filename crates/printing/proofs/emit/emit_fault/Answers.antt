use Rattle.printing.proofs.Appending.{fails, begins_longer, then_begins, then_writes}
use Rattle.printing.proofs.emit.emit_fault.Goals as goal

pub returns-in_err-append : goal.returns-in_err-append
returns-in_err-append g c = fails _ c.from_residual.ensures.0 (begins_longer _ _ _ _ c.in_err-append.ensures)

pub returns-in_err-emit_path : goal.returns-in_err-emit_path
returns-in_err-emit_path g c =
    fails _ c.from_residual-in_err-emit_path.ensures.0
    (then_begins _ _ _ _ _ c.in_ok-append.ensures (begins_longer _ _ _ _ c.in_err-emit_path.ensures))

pub returns-in_err-append-2 : goal.returns-in_err-append-2
returns-in_err-append-2 g c =
    fails _ c.from_residual-in_err-append-2.ensures.0
    (then_begins _ _ _ _ _ c.in_ok-append.ensures
    (then_begins _ _ _ _ _ c.in_ok-emit_path.ensures (begins_longer _ _ _ _ c.in_err-append-2.ensures)))

pub returns-in_err-emit_label : goal.returns-in_err-emit_label
returns-in_err-emit_label g c =
    fails _ c.from_residual-in_err-emit_label.ensures.0
    (then_begins _ _ _ _ _ c.in_ok-append.ensures
    (then_begins _ _ _ _ _ c.in_ok-emit_path.ensures
    (then_begins _ _ _ _ _ c.in_ok-append-2.ensures (begins_longer _ _ _ _ c.in_err-emit_label.ensures))))

pub returns-in_err-append-3 : goal.returns-in_err-append-3
returns-in_err-append-3 g c =
    fails _ c.from_residual-in_err-append-3.ensures.0
    (then_begins _ _ _ _ _ c.in_ok-append.ensures
    (then_begins _ _ _ _ _ c.in_ok-emit_path.ensures
    (then_begins _ _ _ _ _ c.in_ok-append-2.ensures
    (then_begins _ _ _ _ _ c.in_ok-emit_label.ensures (begins_longer _ _ _ _ c.in_err-append-3.ensures)))))

pub returns-in_err-emit_kind : goal.returns-in_err-emit_kind
returns-in_err-emit_kind g c =
    fails _ c.from_residual-in_err-emit_kind.ensures.0
    (then_begins _ _ _ _ _ c.in_ok-append.ensures
    (then_begins _ _ _ _ _ c.in_ok-emit_path.ensures
    (then_begins _ _ _ _ _ c.in_ok-append-2.ensures
    (then_begins _ _ _ _ _ c.in_ok-emit_label.ensures
    (then_begins _ _ _ _ _ c.in_ok-append-3.ensures (begins_longer _ _ _ _ c.in_err-emit_kind.ensures))))))

pub returns : goal.returns
returns g c =
    then_writes _ _ _ _ _ _ c.in_ok-append.ensures
    (then_writes _ _ _ _ _ _ c.in_ok-emit_path.ensures
    (then_writes _ _ _ _ _ _ c.in_ok-append-2.ensures
    (then_writes _ _ _ _ _ _ c.in_ok-emit_label.ensures
    (then_writes _ _ _ _ _ _ c.in_ok-append-3.ensures
    (then_writes _ _ _ _ _ _ c.in_ok-emit_kind.ensures c.append-4.ensures)))))
