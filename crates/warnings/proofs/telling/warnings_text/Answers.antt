use Rattle.std.proofs.Common.{ap, arith, length, ◌∙◌}
use Rattle.warnings.proofs.telling.warnings_text.Goals as goal

pub loop-warning-preserved : goal.loop-warning-preserved
loop-warning-preserved c none = absurd (omega (arith, ap length none, c.loop-warning-test.true))

pub returns : goal.returns
returns c = record { quiet = λ none. c.loop-warning.invariant (c.deref-warning-items.ensures.value ∙ c.in_ok-found.ensures ∙ none) }
