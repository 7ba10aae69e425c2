use Rattle.std.proofs.Common.{◌∙◌, sym, ap}
use Rattle.layout.specs.Laid.{trimmed}
use Rattle.layout.proofs.TrimmedLemmas.{trimmed-blank, trimmed-kept}
use Rattle.layout.proofs.pieces.trimmed.Goals as goal

pub loop-last-preserved : goal.loop-last-preserved
loop-last-preserved c =
    let parts = c.in-Some.ensures.cases.0 in
    sym (trimmed-blank c.in-Some.front.now c.in-Some.last.now (sym c.is_blank.ensures ∙ c.if-not-is_blank.false))
    ∙ ap trimmed (sym parts) ∙ c.loop-last.invariant

pub returns-then-not-is_blank : goal.returns-then-not-is_blank
returns-then-not-is_blank c =
    let parts = c.in-Some.ensures.cases.0 in
    parts ∙ sym (trimmed-kept c.in-Some.front.now c.in-Some.last.now (sym c.is_blank.ensures ∙ c.if-not-is_blank.true))
    ∙ ap trimmed (sym parts) ∙ c.loop-last.invariant
