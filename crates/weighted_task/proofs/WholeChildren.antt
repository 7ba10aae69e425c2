-- A spawned task that ran whole, or is to run in another way.
use Rattle.std.proofs.Common.{◌≡◌, ℕ, ap, subst, sym}
use Rattle.types.specs.Code.{Async, Codes, Program}
use Rattle.types.specs.Translation.{codes, program}
use Rattle.effects.specs.Statements.{HasStatement}
use Rattle.statement_steps.specs.declared.thread.Plan.{Plan}
use Rattle.types.specs.declared.budget.Budget.{Budget as rBudget}
use Rattle.task_run.specs.MayRun.{MayStart}
use Rattle.task_run.specs.OwnRun.{Start as Given}
use Rattle.task_run.specs.Results.{TaskResult}
use Rattle.task_run.specs.Runs.{IsMadeByTask}
use Rattle.task_run.specs.Translation.{start}
use Rattle.task_run.specs.WholeRuns.{RunsWhole}
use Rattle.task_run.specs.declared.result.TaskResult.{TaskResult as Made}
use Rattle.task_run.specs.declared.start.Start.{Start}
use Rattle.task_run.specs.declared.whole.WholeRun.{WholeRun}
use Rattle.task_run.specs.declared.whole.WholeRun.TheVariants.{Made as RunMade}
use Rattle.task_run.specs.Jobs.{program_of, lists_of, budget_of}
use Rattle.task_run.proofs.WholeTasks.{made_in_place}
use Rattle.weighted_task.specs.Tasks.{IsChild, IsOfAsync, IsResultOf}
use Rattle.weighted_task.specs.declared.task.Child.{Child}

module _ (c : Child) (ok : IsChild c) where
  -- the run was that of the child, under the plan of its job
  pub runs_so : (plan : Plan) (s : Start) (r : WholeRun) → program plan.program.now ≡ program_of c.job → plan.budget ≡ c.job.budget
      → s ≡ c.start.value → RunsWhole (program plan.program.now) plan.budget.steps s r
      → RunsWhole (program_of c.job) c.job.budget.steps c.start.value r
  runs_so plan s r program_is budget_is start_is h =
      subst (λ (s : Start). RunsWhole (program_of c.job) c.job.budget.steps s r) start_is
      (subst (λ (b : rBudget). RunsWhole (program_of c.job) b.steps s r) budget_is
      (subst (λ (p : Program). RunsWhole p plan.budget.steps s r) program_is h))

  -- its result is that of a task of the job
  pub whole_result : (r : Made) (begun : ℕ) → RunsWhole (program_of c.job) c.job.budget.steps c.start.value (RunMade r begun)
      → IsResultOf c.job r
  whole_result r begun h =
      subst (λ (x : TaskResult). IsMadeByTask (program_of c.job) (lists_of c.job) (budget_of c.job) x) (sym h.0)
      (made_in_place (program_of c.job) ok.job.sound ok.job.accepted (lists_of c.job) (budget_of c.job) ok.job.fits
      (start c.start.value) ok.may h.1)

  -- an equal start of the same async makes an equal child
  pub same_may : (s : Start) → start s ≡ start c.start.value
      → MayStart (program_of c.job) (lists_of c.job) (budget_of c.job) (start s)
  same_may s same =
      subst (λ (x : Given). MayStart (program_of c.job) (lists_of c.job) (budget_of c.job) x) (sym same) ok.may

  pub same_label : (s : Start) → start s ≡ start c.start.value → s.label ≡ c.start.value.label → IsOfAsync (program_of c.job) s
  same_label s same label =
      subst (λ (l : ℕ). HasStatement (program_of c.job) l (Async (codes s.body.now))) (sym label)
      (subst (λ (b : Codes). HasStatement (program_of c.job) c.start.value.label (Async b)) (sym (ap (λ (x : Given). x.body) same))
      ok.label)
