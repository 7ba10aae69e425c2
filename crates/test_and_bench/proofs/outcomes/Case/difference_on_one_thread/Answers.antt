use Rattle.types.specs.Translation.{budget, input as lists_in, outcome as outcome_in}
use Rattle.types.specs.Typed.{code_of}
use Rattle.test_and_bench.proofs.Trying.{same_program, told_as}
use Rattle.test_and_bench.proofs.outcomes.Case.difference_on_one_thread.Goals as goal

pub returns-in-Ok-clause-how : goal.returns-in-Ok-clause-how
returns-in-Ok-clause-how c =
    let self = c.args.self.now in
    told_as c.difference_of.result (budget self.settings.budget) (code_of self.accepted.now.typed) (lists_in self.input.now)
    (outcome_in c.in-Ok.outcome) self.wanted.now
    (same_program c.typed.result.now self.accepted.now.typed (lists_in self.input.now) (budget self.settings.budget)
    (outcome_in c.in-Ok.outcome) c.in-Ok.ensures c.typed.ensures.field)
    c.difference_of.ensures.how
