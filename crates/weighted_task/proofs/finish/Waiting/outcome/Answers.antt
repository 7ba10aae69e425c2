use Rattle.std.proofs.Common.{◌≡◌, IfOk, subst}
use Rattle.types.specs.Translation.{outcome as outcome_in}
use Rattle.weighted_task.proofs.Ending.{main_told}
use Rattle.weighted_task.proofs.finish.Waiting.outcome.Goals as goal

pub returns : goal.returns
returns c = record {
  told =
      subst (λ x. IfOk c.outcome.result (λ o. outcome_in o ≡ x))
      (main_told c.args.self c.args.settled c.requires.main c.requires.comes) c.outcome.ensures.told;
}
