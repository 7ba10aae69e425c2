use Rattle.types.specs.Translation.{budget, input as lists_in, outcome as outcome_in}
use Rattle.types.specs.Typed.{code_of}
use Rattle.test_and_bench.proofs.Trying.{same_budget, told_as}
use Rattle.test_and_bench.proofs.outcomes.Case.difference_as_tasks.Goals as goal

pub returns-in-Ok-clause-how : goal.returns-in-Ok-clause-how
returns-in-Ok-clause-how g c =
    told_as c.difference_of.result (budget c.args.self.now.settings.budget) (code_of c.args.self.now.accepted.now.typed) (lists_in c.args.self.now.input.now) (outcome_in c.in-Ok.outcome)
    c.args.self.now.wanted.now
    (same_budget (code_of c.args.self.now.accepted.now.typed) (lists_in c.args.self.now.input.now) (budget c.on_workers-settings.result.budget)
    (budget c.args.self.now.settings.budget) (outcome_in c.in-Ok.outcome) c.in-Ok.ensures.outcome
    c.on_workers-settings.ensures.budget)
    c.difference_of.ensures.how
