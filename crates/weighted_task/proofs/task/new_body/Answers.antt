use Rattle.std.proofs.Common.{◌∙◌, ap, subst}
use Rattle.types.specs.Translation.{program}
use Rattle.task_run.specs.Reached.{begun}
use Rattle.task_run.specs.Standings.{IsAt}
use Rattle.task_run.specs.Translation.{start}
use Rattle.weighted_task.specs.declared.task.Body.{Body}
use Rattle.weighted_task.proofs.task.new_body.Goals as goal

pub returns : goal.returns
returns c =
    let run = c.in_ok-run.run' in
    let begins = c.in_ok-run.ensures in
    let is = c.in_ok-body.ensures.ok in
    record {
      run = run;
      first = record {
        job = ap (λ (b : Body). b.job) is;
        run = ap (λ (b : Body). b.run) is;
        scope = ap (λ (b : Body). b.scope) is;
        outer = ap (λ (b : Body). b.outer.items) is ∙ c.new.ensures.items;
        opened = ap (λ (b : Body). b.opened) is;
      };
      begun =
          subst (λ (n : _). IsAt run (begun n (start c.args.start))) (ap (λ (z : _). z.steps) c.plan.ensures.budget) begins.begun;
      nest = begins.nest;
      budget = ap (λ (q : _). q.budget) begins.plan ∙ c.plan.ensures.budget;
      program = ap (λ (q : _). program q.program.now) begins.plan ∙ c.plan.ensures.program;
    }
