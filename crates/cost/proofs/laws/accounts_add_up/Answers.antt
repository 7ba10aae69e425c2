use Rattle.std.proofs.Common.{ap, ◌∙◌}
use Rattle.cost.specs.Costs.{cost_of}
use Rattle.cost.specs.declared.tally.Tally.{Tally}
use Rattle.cost.proofs.Rows.{account_adds_up, span_adds_up}
use Rattle.cost.proofs.Untabled.{tally-account_of}
use Rattle.cost.proofs.laws.accounts_add_up.Goals as goal

pub returns-clause-rows : goal.returns-clause-rows
returns-clause-rows c = account_adds_up

pub returns-clause-span : goal.returns-clause-span
returns-clause-span c p rows input b any =
    span_adds_up p rows input b any ∙ ap (λ (t : Tally). (cost_of t).span) (tally-account_of p rows input b)
