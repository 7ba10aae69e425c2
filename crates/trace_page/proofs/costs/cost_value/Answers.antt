use Rattle.std.proofs.Common.{◌≡◌}
use Rattle.std.proofs.lemmas.Result.{IfOk-weaker}
use Rattle.serde_json.specs.View.{view}
use Rattle.serde_json.specs.declared.value.Value.{Value}
use Rattle.types.specs.Outcome.{outcome}
use Rattle.types.specs.Translation.{budget, input, outcome as outcome_of}
use Rattle.types.specs.Typed.{code_of}
use Rattle.cost.specs.Accounts.{account_of, span_by_label}
use Rattle.trace_page.specs.Costs.{cost_json, if_ended, tables_json}
use Rattle.trace_page.proofs.Tables.{same_tables}
use Rattle.trace_page.proofs.costs.cost_value.Goals as goal

pub returns : goal.returns
returns c =
    let cost = c.in_ok-cost.cost in
    let same = c.in_ok-cost.ensures in
    let p = code_of c.args.typed.now in
    let values = input c.args.input.now in
    let b = budget c.args.budget in
    let account = account_of p c.args.rows values b in
    IfOk-weaker c.shown.result
    (λ (v : Value). view v ≡ if_ended (outcome_of cost.costed.outcome) (tables_json cost.span.items cost.work.items))
    (λ (v : Value). view v ≡ cost_json p c.args.rows values b)
    (λ v is. same_tables (view v) (outcome_of cost.costed.outcome) (outcome p values b) cost.span.items (span_by_label account)
    cost.work.items account.work is same.outcome same.span same.work)
    c.shown.ensures
