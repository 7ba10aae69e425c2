use Rattle.std.proofs.Common.{List, ℕ, Option, sym, subst, ◌∙◌}
use Rattle.std.specs.Io.KnownBytes.{Appends}
use Rattle.syntax.specs.Refusals.{at_text}
use Rattle.syntax.specs.declared.place.TextPlace.{TextPlace}
use Rattle.printing.proofs.Appending.{fails, begins_longer, then_writes}
use Rattle.printing.proofs.reasons.emit_syntax_error.Goals as goal
use Rattle.printing.specs.Appending.{AppendsBeginning, Writes}

pub returns-in_err-emit_text : goal.returns-in_err-emit_text
returns-in_err-emit_text g c =
    fails _ c.from_residual.ensures.0
    (begins_longer _ _ _ _
    (subst (λ (t : List ℕ). AppendsBeginning (g.W.Write.contents c.args.err.now) (g.W.Write.contents c.emit_text.new.err) t)
    c.code.ensures c.in_err-emit_text.ensures))

pub returns-in-Some : goal.returns-in-Some
returns-in-Some g c =
    let old = g.W.Write.contents c.args.err.now in
    let coded = g.W.Write.contents c.emit_text.new.err in
    let new = g.W.Write.contents c.emit_place.new.err in
    then_writes old coded new c.emit_place.result _ _
    (subst (λ (t : List ℕ). Appends old coded t) c.code.ensures c.in_ok-emit_text.ensures)
    (subst (λ (p : Option TextPlace). Writes coded new c.emit_place.result (at_text p)) (sym c.in-Some.is ∙ c.place.ensures)
    c.emit_place.ensures)
