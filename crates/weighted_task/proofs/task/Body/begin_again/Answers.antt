use Rattle.std.proofs.Common.{◌∙◌, ap, refl, subst}
use Rattle.types.specs.Translation.{program}
use Rattle.task_run.specs.Reached.{begun}
use Rattle.task_run.specs.Standings.{IsAt}
use Rattle.task_run.specs.Translation.{start}
use Rattle.weighted_task.proofs.task.Body.begin_again.Goals as goal

pub returns-in_ok-begin_again-in-Some : goal.returns-in_ok-begin_again-in-Some
returns-in_ok-begin_again-in-Some c =
    let run = c.begin_again.new.self in
    let begins = c.in_ok-begin_again-in-Some.ensures in
    record {
      run = run;
      first = record { job = refl; run = refl; scope = refl; outer = c.clear.ensures.items; opened = refl };
      begun =
          subst (λ (n : _). IsAt run (begun n (start c.args.start))) (ap (λ (z : _). z.steps) c.plan.ensures.budget) begins.begun;
      nest = begins.nest;
      budget = ap (λ (q : _). q.budget) begins.plan ∙ c.plan.ensures.budget;
      program = ap (λ (q : _). program q.program.now) begins.plan ∙ c.plan.ensures.program;
    }

pub returns-in_ok-run-in-None : goal.returns-in_ok-run-in-None
returns-in_ok-run-in-None c =
    let run = c.in_ok-run-in-None.run' in
    let begins = c.in_ok-run-in-None.ensures in
    record {
      run = run;
      first = record { job = refl; run = refl; scope = refl; outer = c.clear.ensures.items; opened = refl };
      begun =
          subst (λ (n : _). IsAt run (begun n (start c.args.start))) (ap (λ (z : _). z.steps) c.plan-in-None.ensures.budget) begins.begun;
      nest = begins.nest;
      budget = ap (λ (q : _). q.budget) begins.plan ∙ c.plan-in-None.ensures.budget;
      program = ap (λ (q : _). program q.program.now) begins.plan ∙ c.plan-in-None.ensures.program;
    }
