use Rattle.std.specs.Prelude.{◌++◌, codes}
use Rattle.types.specs.Translation.{procedure}
use Rattle.printing.proofs.Appending.{fails, begins_longer, then_begins, then_writes}
use Rattle.failures.specs.Races.{kind_of, section_name}
use Rattle.failures.proofs.message.emit_access.Goals as goal

pub returns-in_err-emit_text : goal.returns-in_err-emit_text
returns-in_err-emit_text g c =
    fails _ c.from_residual.ensures.0 (begins_longer _ _ _ _ c.in_err-emit_text.ensures)

pub returns-in_err-emit_label : goal.returns-in_err-emit_label
returns-in_err-emit_label g c =
    fails _ c.from_residual-in_err-emit_label.ensures.0
    (then_begins _ _ _ _ _ c.in_ok-emit_text.ensures
    (begins_longer _ _ _ _ c.in_err-emit_label.ensures))

pub returns-in_err-emit_named : goal.returns-in_err-emit_named
returns-in_err-emit_named g c =
    let a = c.args.access in
    let name = section_name (procedure c.args.procedure.now) a.section.number in
    fails _ c.from_residual-in_err-emit_named.ensures.0
    (then_begins _ _ _ _ _ c.in_ok-emit_text.ensures
    (then_begins _ _ _ _ _ c.in_ok-emit_label.ensures
    (begins_longer _ _ (codes " " ++ kind_of a.write) (codes " " ++ name)
    (rw c.kind.ensures at c.in_err-emit_named.ensures))))

pub returns : goal.returns
returns g c =
    then_writes _ _ _ _ _ _ c.in_ok-emit_text.ensures
    (then_writes _ _ _ _ _ _ c.in_ok-emit_label.ensures
    (then_writes _ _ _ _ _ _ (rw c.kind.ensures at c.in_ok-emit_named.ensures)
    (rw c.section_name.ensures at c.emit_named-2.ensures)))
