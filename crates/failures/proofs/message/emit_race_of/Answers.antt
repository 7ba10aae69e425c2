use Rattle.std.specs.Prelude.{◌++◌, codes}
use Rattle.types.specs.Translation.{procedure}
use Rattle.printing.proofs.Appending.{fails, begins_longer, then_begins, then_writes}
use Rattle.failures.proofs.message.emit_race_of.Goals as goal

pub returns-in_err-emit_named : goal.returns-in_err-emit_named
returns-in_err-emit_named g c =
    fails _ c.from_residual.ensures.0
    (begins_longer _ _ (codes "C1 race in " ++ (procedure c.args.procedure.now).name) _
    (rw c.as_str.ensures.value at c.in_err-emit_named.ensures))

pub returns-in_err-emit_access : goal.returns-in_err-emit_access
returns-in_err-emit_access g c =
    fails _ c.from_residual-in_err-emit_access.ensures.0
    (then_begins _ _ _ _ _ (rw c.as_str.ensures.value at c.in_ok-emit_named.ensures)
    (begins_longer _ _ _ _ c.in_err-emit_access.ensures))

pub returns : goal.returns
returns g c =
    then_writes _ _ _ _ _ _ (rw c.as_str.ensures.value at c.in_ok-emit_named.ensures)
    (then_writes _ _ _ _ _ _ c.in_ok-emit_access.ensures c.emit_access-2.ensures)
