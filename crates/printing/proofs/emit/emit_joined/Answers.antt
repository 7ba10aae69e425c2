use Rattle.std.proofs.Common.{sym, ap, ◌∙◌, subst}
use Rattle.printing.specs.Appending.{Writes}
use Rattle.printing.specs.OutcomeText.{joined_text}
use Rattle.printing.proofs.Appending.{fails, begins_longer, then_writes}
use Rattle.printing.proofs.OutcomeText.{joined_text-cons}
use Rattle.printing.proofs.emit.emit_joined.Goals as goal

pub returns-in_err-emit_number-in-Some : goal.returns-in_err-emit_number-in-Some
returns-in_err-emit_number-in-Some g c =
    let pieces = ap joined_text c.in-Some.ensures.cases.0 ∙ joined_text-cons c.in-Some.first.now c.in-Some.rest.now in
    subst (Writes _ _ _) (sym pieces) (fails _ c.from_residual.ensures.0 (begins_longer _ _ _ _ c.in_err-emit_number-in-Some.ensures))

pub returns-in_ok-emit_number-in-Some : goal.returns-in_ok-emit_number-in-Some
returns-in_ok-emit_number-in-Some g c =
    let pieces = ap joined_text c.in-Some.ensures.cases.0 ∙ joined_text-cons c.in-Some.first.now c.in-Some.rest.now in
    subst (Writes _ _ _) (sym pieces) (then_writes _ _ _ _ _ _ c.in_ok-emit_number-in-Some.ensures c.emit_spaced.ensures)
