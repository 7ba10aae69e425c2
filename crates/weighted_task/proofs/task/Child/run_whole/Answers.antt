use Rattle.std.proofs.Common.{◌∙◌, ap, refl, subst, sym}
use Rattle.types.specs.Code.{Program}
use Rattle.types.specs.Translation.{program}
use Rattle.plain_code.specs.Pieces.{IsCodeOfProgram}
use Rattle.task_run.specs.Jobs.{program_of}
use Rattle.task_run.specs.Results.{TaskResult}
use Rattle.task_run.specs.Translation.{start}
use Rattle.task_run.specs.WholeRuns.{RunsWhole}
use Rattle.task_run.specs.declared.start.Start.{Start}
use Rattle.weighted_task.specs.Tasks.{IsOfAsync}
use Rattle.weighted_task.proofs.WholeChildren.{runs_so, same_label, same_may, whole_result}
use Rattle.weighted_task.proofs.task.Child.run_whole.Goals as goal

pub run_whole-requires : goal.run_whole-requires
run_whole-requires g c =
    let child = c.args.self in
    let same = sym c.plan.ensures.program in
    record {
      code = subst (λ (p : Program). IsCodeOfProgram p c.args.code.now) same c.requires.code;
      body = subst (λ (p : Program). IsOfAsync p c.take_out-start.result) same
          (subst (IsOfAsync (program_of child.job)) (sym c.take_out-start.ensures) c.requires.child.label);
    }

pub returns-in-Made : goal.returns-in-Made
returns-in-Made g c =
    let child = c.args.self in let ok = c.requires.child in
    let runs = runs_so child ok c.plan.result c.take_out-start.result _ c.plan.ensures.program c.plan.ensures.budget c.take_out-start.ensures
    c.in_ok-made.ensures in
    let made = subst (RunsWhole (program_of child.job) child.job.budget.steps child.start.value) c.in-Made.is runs in
    record {
      job = refl;
      scope = refl;
      weight = refl;
      path = ap (λ (r : TaskResult). r.path) made.0;
      result = whole_result child ok c.in-Made.made c.in-Made.begun made;
    }

pub returns-in_ok-start-in-Again : goal.returns-in_ok-start-in-Again
returns-in_ok-start-in-Again g c =
    let child = c.args.self in let ok = c.requires.child in
    let runs = runs_so child ok c.plan.result c.take_out-start.result _ c.plan.ensures.program c.plan.ensures.budget c.take_out-start.ensures
    c.in_ok-made.ensures in
    let same = subst (RunsWhole (program_of child.job) child.job.budget.steps child.start.value) c.in-Again.is runs in
    let boxed = c.in_ok-start-in-Again.ensures in
    let is_start = ap start boxed ∙ same.start in
    let is_label = ap (λ (s : Start). s.label) boxed ∙ same.label in
    let new = c.in_ok-start-in-Again.start.value in
    record {
      job = refl;
      scope = refl;
      weight = refl;
      start = is_start;
      child = record {
        job = ok.job;
        may = same_may child ok new is_start;
        label = same_label child ok new is_start is_label;
      };
    }
