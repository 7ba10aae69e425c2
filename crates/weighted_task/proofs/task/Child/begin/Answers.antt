use Rattle.std.proofs.Common.{◌∙◌, ap, refl, subst}
use Rattle.task_run.specs.Reached.{begun}
use Rattle.task_run.specs.Standings.{IsAt}
use Rattle.task_run.specs.Translation.{start}
use Rattle.task_run.specs.declared.start.Start.{Start}
use Rattle.weighted_task.proofs.Staying.{first_goes}
use Rattle.weighted_task.proofs.task.Child.begin.Goals as goal

pub returns : goal.returns
returns c =
    let child = c.args.self in
    let ok = c.requires.child in
    let starts = c.in_ok-body.ensures in
    let unboxed = c.take_out-start.ensures in
    let at = subst (λ (s : Start). IsAt starts.run (begun child.job.budget.steps (start s))) unboxed starts.begun in
    let nest = starts.nest ∙ ap (λ (s : Start). s.nest) unboxed in
    record {
      task = record {
        run = starts.run;
        first = starts.first;
        begun = at;
        nest = nest;
        weight = refl;
        task = record {
          run = starts.run;
          has = starts.first.run;
          goes =
              first_goes child.job ok.job (start child.start.value) starts.run c.in_ok-body.body.value child.scope ok.may starts.budget
              starts.program nest at starts.first;
        };
      };
    }
