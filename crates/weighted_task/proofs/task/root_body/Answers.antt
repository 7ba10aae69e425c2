use Rattle.std.proofs.Common.{◌∙◌, ap, subst}
use Rattle.std.proofs.lemmas.Result.{IfOk-weaker}
use Rattle.task_run.specs.OwnRun.{Start}
use Rattle.task_run.specs.Reached.{begun, root_begins}
use Rattle.task_run.specs.Runs.{root}
use Rattle.task_run.specs.Standings.{IsAt}
use Rattle.task_run.specs.Jobs.{program_of, lists_of, budget_of}
use Rattle.weighted_task.specs.Tasks.{IsRootBody}
use Rattle.weighted_task.proofs.Staying.{first_goes}
use Rattle.weighted_task.proofs.task.root_body.Goals as goal

pub returns : goal.returns
returns c =
    let j = c.args.job in
    let s = root (program_of j) (lists_of j) (budget_of j) in
    IfOk-weaker c.new_body.result _ (λ b. IsRootBody j b.value)
    (λ b starts.
    let at = subst (λ (z : Start). IsAt starts.run (begun j.budget.steps z)) c.in_ok-root.ensures starts.begun in
    let nest = starts.nest ∙ ap (λ (z : Start). z.nest) c.in_ok-root.ensures in
    record {
      run = starts.run;
      first = starts.first;
      begun = at;
      nest = nest;
      task = record {
        run = starts.run;
        has = starts.first.run;
        goes =
            first_goes j c.requires s starts.run b.value (record { depth = 0; number = 0 }) root_begins starts.budget starts.program nest at
            starts.first;
      };
    }) c.new_body.ensures
