use Rattle.std.proofs.Common.{ap, ◌∙◌}
use Rattle.types.specs.Outcome.{outcome}
use Rattle.types.specs.Translation.{budget, input as lists_in}
use Rattle.types.specs.Typed.{code_of}
use Rattle.types.specs.declared.typed.Typed.{Typed}
use Rattle.cost.specs.Costs.{cost_of, tally_of}
use Rattle.test_and_bench.proofs.timing.measured.Goals as goal

pub returns-in-Ok-clause-outcome : goal.returns-in-Ok-clause-outcome
returns-in-Ok-clause-outcome c =
    c.in-Ok.ensures.outcome
    ∙ ap (λ (t : Typed). outcome (code_of t) (lists_in c.args.input.now) (budget c.args.settings.budget)) c.typed.ensures.field

pub returns-in-Ok-clause-cost : goal.returns-in-Ok-clause-cost
returns-in-Ok-clause-cost c =
    c.in-Ok.ensures.cost
    ∙ ap (λ (t : Typed). cost_of (tally_of (code_of t) (lists_in c.args.input.now) (budget c.args.settings.budget))) c.typed.ensures.field
