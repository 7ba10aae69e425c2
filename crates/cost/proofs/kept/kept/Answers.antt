use Rattle.std.proofs.Common.{ap, ◌∙◌}
use Rattle.types.specs.Code.{Program}
use Rattle.types.specs.Outcome.{outcome}
use Rattle.types.specs.Translation.{input, budget}
use Rattle.statement_steps.specs.declared.thread.Plan.{Plan}
use Rattle.cost.specs.Kept.{printed}
use Rattle.cost.proofs.EndLemmas.{told, told_lines}
use Rattle.cost.proofs.kept.kept.Goals as goal

pub returns-clause-outcome : goal.returns-clause-outcome
returns-clause-outcome g c =
    let plan : Plan = record { alloc = c.args.alloc; program = c.code.result; budget = c.args.budget } in
    let lists = input c.args.input.now in
    let end = c.in_ok-machine.machine in
    told plan end.thread end.account 0 lists c.in_ok-machine.ensures.bounds c.in_ok-machine.ensures.stands
    ∙ ap (λ (q : Program). outcome q lists (budget c.args.budget)) c.code.ensures.code

pub returns-clause-lines : goal.returns-clause-lines
returns-clause-lines g c =
    let plan : Plan = record { alloc = c.args.alloc; program = c.code.result; budget = c.args.budget } in
    let lists = input c.args.input.now in
    let end = c.in_ok-machine.machine in
    told_lines plan end.thread end.account 0 lists c.in_ok-machine.ensures.stands
    ∙ ap (λ (q : Program). printed q lists (budget c.args.budget)) c.code.ensures.code
