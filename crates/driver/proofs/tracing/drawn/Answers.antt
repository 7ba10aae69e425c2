use Rattle.std.proofs.Common.{◌≡◌, ap, ◌∙◌, map, subst}
use Rattle.types.specs.Outcome.{outcome}
use Rattle.types.specs.Translation.{budget, outcome as outcome_in}
use Rattle.event_worlds.specs.declared.job.WeightedJob.{WeightedJob}
use Rattle.task_run.specs.Jobs.{lists_of, program_of}
use Rattle.events.specs.Events.{event as event_of}
use Rattle.command_line.specs.Requests.{settings}
use Rattle.driver.specs.Traced.{AreOfRun}
use Rattle.driver.proofs.TracedRuns.{are_of_run, drawn_leads, drawn_outcome}
use Rattle.driver.proofs.tracing.drawn.Goals as goal

pub returns-in-Some-told-clause-outcome : goal.returns-in-Some-told-clause-outcome
returns-in-Some-told-clause-outcome c =
    let on = c.run_settings-on.ensures in
    let job = c.in-Some in
    let walk = c.in-Ok in
    subst (λ (k : WeightedJob). outcome_in c.in-Some-told.outcome
    ≡ outcome (program_of k.job) (lists_of k.job) (budget c.args.settings.budget)) job.ensures.1
    (drawn_outcome walk.walk.world walk.ensures.world.job job.job walk.walk.events.items walk.ensures.legal
    c.in-Some-told.outcome c.in-Some-told.is c.args.settings.budget
    (ap (λ (k : WeightedJob). k.job.budget) job.ensures.1 ∙ on.budget))

pub returns-in-Some-told-clause-events : goal.returns-in-Some-told-clause-events
returns-in-Some-told-clause-events c =
    let on = c.run_settings-on.ensures in
    let s = c.args.settings in
    let job = c.in-Some in
    let walk = c.in-Ok in
    let budget_is = ap (λ (k : WeightedJob). k.job.budget) job.ensures.1 ∙ on.budget in
    let w0_is = ap (λ (k : WeightedJob). k.w0) job.ensures.1 ∙ on.w0 in
    subst (λ (k : WeightedJob). AreOfRun (program_of k.job) (lists_of k.job) (settings s)
    (map event_of walk.walk.events.items)) job.ensures.1
    (are_of_run (record { world = walk.walk.world; events = walk.walk.events.items }) job.job s
    (outcome_in c.in-Some-told.outcome) walk.ensures.legal.job budget_is w0_is
    (drawn_leads walk.walk.world walk.ensures.world.job job.job walk.walk.events.items walk.ensures.legal
    c.in-Some-told.outcome c.in-Some-told.is)
    (drawn_outcome walk.walk.world walk.ensures.world.job job.job walk.walk.events.items walk.ensures.legal
    c.in-Some-told.outcome c.in-Some-told.is s.budget budget_is))
