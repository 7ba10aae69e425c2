use Rattle.std.proofs.Common.{ap, ◌∙◌}
use Rattle.types.specs.Code.{Program}
use Rattle.types.specs.Outcome.{outcome}
use Rattle.types.specs.Translation.{input, budget, program}
use Rattle.statement_steps.specs.declared.thread.Plan.{Plan}
use Rattle.cost.specs.Accounts.{account_of, span_by_label}
use Rattle.cost.specs.Costs.{cost_of, tally_of}
use Rattle.cost.specs.Resume.{Standing}
use Rattle.cost.proofs.EndLemmas.{told}
use Rattle.cost.proofs.Untabled.{tally-account_of}
use Rattle.cost.proofs.cost.measure_by_label.Goals as goal

pub returns-clause-outcome : goal.returns-clause-outcome
returns-clause-outcome c =
    let plan : Plan = record { alloc = c.args.alloc; program = c.code.result; budget = c.args.budget } in
    let lists = input c.args.input.now in
    let end = c.in_ok-machine.machine in
    c.outcome.ensures
    ∙ told plan end.thread end.account c.args.rows lists c.in_ok-machine.ensures.bounds c.in_ok-machine.ensures.stands
    ∙ ap (λ (q : Program). outcome q lists (budget c.args.budget)) c.code.ensures.code

pub returns-clause-cost : goal.returns-clause-cost
returns-clause-cost c =
    let lists = input c.args.input.now in
    c.in_ok-of.ensures
    ∙ ap (λ (s : Standing). cost_of s.state.extra.tally) c.in_ok-machine.ensures.stands
    ∙ ap cost_of (tally-account_of (program c.code.result.now) c.args.rows lists (budget c.args.budget))
    ∙ ap (λ (q : Program). cost_of (tally_of q lists (budget c.args.budget))) c.code.ensures.code

pub returns-clause-work : goal.returns-clause-work
returns-clause-work c =
    let lists = input c.args.input.now in
    c.tables-work.ensures.work
    ∙ ap (λ (s : Standing). s.state.extra.work) c.in_ok-machine.ensures.stands
    ∙ ap (λ (q : Program). (account_of q c.args.rows lists (budget c.args.budget)).work) c.code.ensures.code

pub returns-clause-span : goal.returns-clause-span
returns-clause-span c =
    let lists = input c.args.input.now in
    c.tables-work.ensures.span
    ∙ ap (λ (s : Standing). span_by_label s.state.extra) c.in_ok-machine.ensures.stands
    ∙ ap (λ (q : Program). span_by_label (account_of q c.args.rows lists (budget c.args.budget))) c.code.ensures.code
