use Rattle.types.specs.Translation.{budget, input as lists_in, outcome as outcome_in}
use Rattle.types.specs.Typed.{code_of}
use Rattle.test_and_bench.proofs.Trying.{printed_as, same_program}
use Rattle.test_and_bench.proofs.outcomes.Case.told_on_one_thread.Goals as goal

pub returns-in-Ok-clause-told : goal.returns-in-Ok-clause-told
returns-in-Ok-clause-told c =
    let self = c.args.self.now in
    printed_as c.text_of.result (budget self.settings.budget) (code_of self.accepted.now.typed) (lists_in self.input.now)
    (outcome_in c.in-Ok.outcome)
    (same_program c.typed.result.now self.accepted.now.typed (lists_in self.input.now) (budget self.settings.budget)
    (outcome_in c.in-Ok.outcome) c.in-Ok.ensures c.typed.ensures.field)
    c.text_of.ensures.text
