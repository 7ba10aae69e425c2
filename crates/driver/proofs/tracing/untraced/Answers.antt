use Rattle.std.proofs.Common.{ap, ◌∙◌}
use Rattle.types.specs.Outcome.{outcome}
use Rattle.types.specs.Translation.{budget, input as lists_in}
use Rattle.types.specs.Typed.{code_of}
use Rattle.types.specs.declared.budget.Budget.{Budget}
use Rattle.driver.proofs.tracing.untraced.Goals as goal

pub returns-in-Ok-clause-outcome : goal.returns-in-Ok-clause-outcome
returns-in-Ok-clause-outcome g c =
    c.in-Ok.ensures.outcome
    ∙ ap (λ (b : Budget). outcome (code_of c.args.given.now.accepted.typed) (lists_in c.args.given.now.input) (budget b))
    c.run_settings-on.ensures.budget
