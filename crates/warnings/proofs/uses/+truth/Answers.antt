use Rattle.std.proofs.Common.{ap, sym, ◌∙◌}
use Rattle.types.proofs.Chains.{truth-Both, truth-Either}
use Rattle.types.specs.Rows.{truths}
use Rattle.types.specs.Translation.{truth}
use Rattle.warnings.specs.Uses.{truth_uses, truths_use}
use Rattle.warnings.proofs.uses.+truth.Goals as goal

pub condition_uses-returns-in-Both : goal.condition_uses-returns-in-Both
condition_uses-returns-in-Both t c =
    let x = c.args.thing in
    c.conditions_use.ensures ∙ ap (λ ts. truths_use x (truths ts)) c.deref-in-Both.ensures.value
    ∙ sym (ap (truth_uses x) (ap truth c.in-Both.is ∙ truth-Both c.in-Both.operands))

pub condition_uses-returns-in-Either : goal.condition_uses-returns-in-Either
condition_uses-returns-in-Either t c =
    let x = c.args.thing in
    c.conditions_use-in-Either.ensures ∙ ap (λ ts. truths_use x (truths ts)) c.deref-in-Either.ensures.value
    ∙ sym (ap (truth_uses x) (ap truth c.in-Either.is ∙ truth-Either c.in-Either.operands))
